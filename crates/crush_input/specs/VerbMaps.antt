-- The map files of verbs: what the files must contain, and what is written to standard error if they don't.
use Rattle.std.specs.Prelude.{◌≡◌, ◌⊎◌, ◌<◌, ◌≤◌, ◌+◌, ◌-◌, ◌==◌, ◌++◌, ◌&&◌, ◌||◌, not, ℕ, Bool, true, false, List, [], ◌∷◌, Option, IfSome, codes, decimal, drop, if◌then◌else◌, length, min, slice_index, take}
use Rattle.std.specs.List.{ends_with}
use Rattle.std.specs.Str.{bytes_eq}
use Rattle.crush_units.specs.declared.limits.TheConstants.{LONGEST_JOB}
use Rattle.crush_edits.specs.Setting.{SettingData}
use Rattle.crush_model.specs.Table.{Row}
use Rattle.crush_text.specs.Document.{IsMapText}
use Rattle.crush_text.specs.Fault.{fault_name}
use Rattle.crush_text.specs.Flaw.{IsMapFlaw}
use Rattle.crush_text.specs.declared.fault.TextFault.{TextFault}
use Rattle.crush_text.specs.declared.fault.TextFaultKind.{TextFaultKind}
use Rattle.crush_text.specs.declared.fault.TextFaultKind.TheVariants as text
use Rattle.crush_reasons.specs.Fault.{fault_text, flaw_place_text}
use Rattle.crush_script.specs.declared.fault.JobFault.TheVariants as job
use Rattle.crush_script.specs.Lines.{line_feeds, map_part}
use Rattle.crush_options.specs.declared.parsed_options.MapForm.{MapForm}
use Rattle.crush_options.specs.declared.parsed_options.MapForm.TheVariants as form
use Rattle.crush_input.specs.declared.verb_maps.VerbMap.{VerbMap}
use Rattle.crush_input.specs.declared.verb_maps.VerbMap.TheVariants as which
use Rattle.crush_input.specs.declared.verb_maps.VerbMapFault.{VerbMapFault}
use Rattle.crush_input.specs.declared.verb_maps.VerbMapFault.TheVariants as verb
use Rattle.crush_input.specs.declared.fault.RunFault.{RunFault}
use Rattle.crush_input.specs.declared.fault.RunFault.TheVariants as run
use Rattle.crush_input.specs.Joined.{is_line_blank}
use Rattle.crush_input.specs.Notes.{IsNoteOfUnreadFile}
use Rattle.crush_input.specs.Origins.{whole_of}
use Rattle.crush_input.specs.Report.{out_of_memory}

-- the last line of the text of a whole map
abbrev pub end_line : List ℕ
end_line = codes "# end crush map"

-- whether a byte is neither a blank nor a line feed
abbrev pub is_text_byte : ℕ → Bool
is_text_byte b = not (is_line_blank b || b == 10)

-- the number of bytes up to and including the last one that is neither a blank nor a line feed. `seen` is the number of bytes of the text before these bytes, and `best` is the result for those earlier bytes
abbrev pub text_length : ℕ → ℕ → List ℕ → ℕ
text_length seen best [] = best
text_length seen best (b ∷ bs) = text_length (seen + 1) (if is_text_byte b then seen + 1 else best) bs

-- the bytes without the blanks and line feeds at their end
abbrev pub without_end : List ℕ → List ℕ
without_end bytes = take (text_length 0 0 bytes) bytes

-- whether these bytes end in the line `# end crush map`
abbrev pub ends_in_end_line : List ℕ → Bool
ends_in_end_line bytes = bytes_eq bytes end_line || ends_with (λ a b. a == b) bytes (codes "\n# end crush map")

-- WHOLE: whether the last line that isn't blank is `# end crush map`. Blanks may follow these words in the line
abbrev pub is_whole : List ℕ → Bool
is_whole bytes = ends_in_end_line (without_end bytes)

-- whether the files must be complete maps
abbrev pub wants_whole : MapForm → Bool
wants_whole form.WholeMap = true
wants_whole other = false

-- CUT: whether the text of a map counts as cut, if it has no other fault: it must be complete, and isn't
abbrev pub is_cut : MapForm → List ℕ → Bool
is_cut maps bytes = wants_whole maps && not (is_whole bytes)

-- whether a text with a fault at this place counts as cut: it must be complete and isn't, and no line feed is at the place or after it
abbrev pub is_cut_at : MapForm → List ℕ → ℕ → Bool
is_cut_at maps bytes place = is_cut maps bytes && (line_feeds (drop (min place (length bytes)) bytes) == 0)

-- A MAP: the verb can use these bytes. There are at most as many bytes as a job may have, they are the text of a map, and this text is complete if it must be
pub record IsVerbMap (maps : MapForm) (bytes : List ℕ) : Type 0 where
  pub short : length bytes ≤ LONGEST_JOB
  pub setting : SettingData
  pub table : List Row
  pub adjusted : ℕ
  pub text : IsMapText bytes setting table adjusted
  pub whole : is_cut maps bytes ≡ false

-- MAY BE A MAP: there are at most as many bytes as a job may have, no line begins with `%`, and the text is complete if it must be. `VerbMapLaws` says that such bytes are a map if a run on them succeeds
pub record MayBeVerbMap (maps : MapForm) (bytes : List ℕ) : Type 0 where
  pub short : length bytes ≤ LONGEST_JOB
  pub single : map_part bytes ≡ bytes
  pub whole : is_cut maps bytes ≡ false

-- whether a run that ends with this fault may have ended before it parsed all of its maps
abbrev pub may_precede_maps : RunFault → Bool
may_precede_maps (run.Job fault) = true
may_precede_maps run.Read = true
may_precede_maps run.Memory = true
may_precede_maps (run.SecondMap map fault) = true
may_precede_maps other = false

-- the bytes count as cut. They must be complete, but aren't (`is_cut`). Also, they are the text of a map, or they have a flaw for which no line feed is at its place or after it
abbrev pub IsCutText : MapForm → List ℕ → Type 0
IsCutText maps bytes =
    ((s : SettingData) × (t : List Row) × (n : ℕ) × IsMapText bytes s t n × (is_cut maps bytes ≡ true))
    ⊎ ((f : TextFault) × IsMapFlaw bytes f × (is_cut_at maps bytes f.place ≡ true))

-- A CUT MAP: there are at most as many bytes as a job may have, and they count as cut
abbrev pub IsCutMap : MapForm → List ℕ → Type 0
IsCutMap maps bytes = (length bytes ≤ LONGEST_JOB) × IsCutText maps bytes

-- a flaw that is reported: the text isn't longer than a job may be, it has this flaw, and it doesn't count as cut
abbrev pub IsToldFlaw : MapForm → List ℕ → TextFault → Type 0
IsToldFlaw maps bytes fault = (length bytes ≤ LONGEST_JOB) × (IsMapFlaw bytes fault × (is_cut_at maps bytes fault.place ≡ false))

-- why these bytes aren't a map that the verb can use. The reason is never a failed read. The definition says nothing about the fault that memory ran out.
abbrev pub IsVerbTextFault : MapForm → List ℕ → VerbMapFault → Type 0
IsVerbTextFault needs bytes (verb.Text fault) = IsToldFlaw needs bytes fault
IsVerbTextFault needs bytes verb.Cut = IsCutMap needs bytes
IsVerbTextFault needs bytes verb.TooLong = LONGEST_JOB < length bytes
IsVerbTextFault needs bytes verb.Read = ⊥
IsVerbTextFault needs bytes verb.Memory = Unit {0}

-- A FAULT OF A FILE: why a file isn't a map that the verb can use. If the file's bytes are known, they have the fault, unless the file couldn't be read.
abbrev pub IsVerbMapFault : MapForm → Option (List ℕ) → VerbMapFault → Type 0
IsVerbMapFault needs all verb.Read = Unit {0}
IsVerbMapFault needs all fault = IfSome all (λ bytes. IsVerbTextFault needs bytes fault)

-- whether a kind of flaw is that of a word that no text of a map may have
abbrev pub is_bad_word : TextFaultKind → Bool
is_bad_word text.BadWord = true
is_bad_word kind = false

-- whether the flaw is at a `%` at the beginning of a line, as it is if a script follows the map
abbrev pub begins_script : List ℕ → TextFault → Bool
begins_script bytes fault = is_bad_word fault.kind && (fault.place == 0 || slice_index bytes (fault.place - 1) == 10) && slice_index bytes fault.place == 37

-- NOTES OF A FLAW of a verb's map in a file that is called `shown`: the place of the flaw and the reason. If the flaw is the beginning of a script, the reason says that scripts belong in files of their own.
abbrev pub verb_flaw_notes : List ℕ → List ℕ → TextFault → List ℕ
verb_flaw_notes shown bytes fault =
    if begins_script bytes fault then flaw_place_text (whole_of shown) bytes fault ++ codes "  scripts are files of their own here: crushedit apply MAP SCRIPT\n"
    else fault_text (whole_of shown) bytes (job.Text fault)

-- the reason for a fault that isn't a flaw of the text, and has no place in it. There is no reason for a failed read, because the note about the file has the reason, and no reason if memory ran out
abbrev pub verb_map_reason : VerbMapFault → List ℕ
verb_map_reason verb.Cut = codes "  the text doesn't end with `# end crush map`: was it cut? If it is whole, add that line\n"
verb_map_reason verb.TooLong = codes "  the file of a map has at most 16777216 bytes\n"
verb_map_reason fault = []

-- if the fault is a flaw, there are at most as many bytes as a job may have, so that the place of the flaw has a line and a column. Other faults have no place
abbrev pub CanBeShown : VerbMapFault → List ℕ → Type 0
CanBeShown (verb.Text fault) bytes = length bytes ≤ LONGEST_JOB
CanBeShown fault bytes = Unit {0}

-- the notes of a fault of the bytes of a verb's map, whose file is called `shown` in the notes
abbrev pub verb_map_notes : List ℕ → List ℕ → VerbMapFault → List ℕ
verb_map_notes shown bytes (verb.Text fault) = verb_flaw_notes shown bytes fault
verb_map_notes shown bytes fault = verb_map_reason fault

-- NOTES OF A FAULT of the file `name`. For a flaw, they are `verb_flaw_notes`, if the file's bytes are known. If the file can't be read, they are the note about the file. For any other fault they are the reason (`verb_map_reason`)
abbrev pub AreNotesOfVerbMap : List ℕ → List ℕ → Option (List ℕ) → VerbMapFault → List ℕ → Type 0
AreNotesOfVerbMap name shown all (verb.Text fault) notes = IfSome all (λ bytes. notes ≡ verb_flaw_notes shown bytes fault)
AreNotesOfVerbMap name shown all verb.Read notes = IsNoteOfUnreadFile name notes
AreNotesOfVerbMap name shown all fault notes = notes ≡ verb_map_reason fault

-- the words before a fault of a map, which say which map has the fault; nothing for the map with which a run begins
abbrev pub map_prefix : VerbMap → List ℕ
map_prefix which.First = []
map_prefix which.Old = codes "old: "
map_prefix which.Wanted = codes "to: "

-- the line for a fault of a verb's map
abbrev pub verb_map_line : VerbMap → VerbMapFault → List ℕ
verb_map_line map (verb.Text f) = codes "crushedit: " ++ map_prefix map ++ codes "byte " ++ decimal f.place ++ codes ": " ++ fault_name f.kind ++ codes "\n"
verb_map_line map verb.Cut = codes "crushedit: " ++ map_prefix map ++ codes "cut\n"
verb_map_line map verb.TooLong = codes "crushedit: " ++ map_prefix map ++ codes "TooLong\n"
verb_map_line map verb.Read = codes "crushedit: " ++ map_prefix map ++ codes "read fault\n"
verb_map_line map verb.Memory = out_of_memory

-- the status for a fault of a verb's map
abbrev pub verb_map_status : VerbMapFault → ℕ
verb_map_status (verb.Text f) = 1
verb_map_status verb.Cut = 1
verb_map_status verb.TooLong = 1
verb_map_status verb.Read = 3
verb_map_status verb.Memory = 4
