-- The text of a history: one line for each entry.
use Rattle.std.specs.Prelude.{ℕ, ◌+◌, List, [], ◌∷◌, ◌++◌, Bool, true, false, codes, decimal, slice_index_or, map, flat_map}
use Rattle.crush_edits.specs.declared.edit.Edit.{Edit}
use Rattle.crush_edits.specs.declared.refusal.Refusal.{Refusal}
use Rattle.crush_edits.specs.EditText.{edit_text}
use Rattle.crush_edits.specs.Refusal.{refusal_name, refusal_error}
use Rattle.crush_history.specs.declared.call.Call.{Call}
use Rattle.crush_history.specs.declared.call.Call.TheVariants.{One, Batch, Guarded}
use Rattle.crush_history.specs.declared.call.Reply.{Reply}
use Rattle.crush_history.specs.declared.call.Reply.TheVariants.{Done, Dones, Refused, BatchRefused, Stale}
use Rattle.crush_history.specs.Script.{ScriptData}
use Rattle.crush_history.specs.History.{EntryData}

-- A CALL: the text of a batch is `begin ; `, then each edit followed by ` ; `, and then `commit`. The text of a guarded batch has `begin at N ; ` in place of `begin ; `
-- the edits of a batch, each followed by ` ; `
abbrev pub edits_text : List Edit → List ℕ
edits_text es = flat_map (λ e. edit_text e ++ codes " ; ") es

-- the text of a batch after its beginning: the edits, each followed by ` ; `, and `commit`
abbrev pub rest_text : List Edit → List ℕ
rest_text es = edits_text es ++ codes "commit"

-- the beginning of a guarded batch, with the number of changes that it expects
abbrev pub guard_text : ℕ → List ℕ
guard_text seen = codes "begin at " ++ decimal seen ++ codes " ; "

-- the text of a call
abbrev pub call_text : Call → List ℕ
call_text (One edit) = edit_text edit
call_text (Batch es) = codes "begin ; " ++ rest_text es
call_text (Guarded seen es) = guard_text seen ++ rest_text es

-- `1` for true, `0` for false
abbrev pub digit_of : Bool → List ℕ
digit_of true = codes "1"
digit_of false = codes "0"

-- the beginning of a line, before the call: `# NUMBER OPERATOR `
unfoldable pub line_head : ℕ → List ℕ → List ℕ
line_head number operator = codes "# " ++ decimal number ++ codes " " ++ operator ++ codes " "

-- a refusal's name and its Linux error number
abbrev pub refusal_words : Refusal → List ℕ
refusal_words r = refusal_name r ++ codes " " ++ decimal (refusal_error r)

-- A REPLY: its text in a line of a history, after ` = `. In `refused at INDEX`, the index of the refused edit in its batch is counted from 0
unfoldable pub reply_text : Reply → List ℕ
reply_text (Done d) = codes "done changed " ++ digit_of d.changed ++ codes " made " ++ decimal d.made
reply_text (Dones d) = codes "dones " ++ decimal d.edits ++ codes " changed " ++ decimal d.changed ++ codes " made " ++ decimal d.made
reply_text (Refused r) = codes "refused " ++ refusal_words r
reply_text (BatchRefused index r) = codes "refused at " ++ decimal index ++ codes " " ++ refusal_words r
reply_text (Stale n) = codes "refused Stale 11 changes " ++ decimal n

-- a call and its reply on one line, without the line feed: `# NUMBER OPERATOR CALL = REPLY`
abbrev pub line_words : ℕ → List ℕ → Call → Reply → List ℕ
line_words number operator call reply = line_head number operator ++ (call_text call ++ codes " = " ++ reply_text reply)

-- a call and its reply on one line, with the line feed
abbrev pub line_text : ℕ → List ℕ → Call → Reply → List ℕ
line_text number operator call reply = line_words number operator call reply ++ codes "\n"

-- the line of an entry, given its number in the history and its operator's name
abbrev pub entry_text : ℕ → List ℕ → EntryData → List ℕ
entry_text number operator e = line_text number operator e.call e.reply

-- the lines of entries. The first line has the given number, and each further line has the next number. `names` has each operator's name at the operator's index
unfoldable pub entries_text : List (List ℕ) → ℕ → List EntryData → List ℕ
entries_text names number [] = []
entries_text names number (e ∷ h) = entry_text number (slice_index_or names e.operator []) e ++ entries_text names (number + 1) h

-- the operators' names, in the order of their scripts
abbrev pub names_of : List ScriptData → List (List ℕ)
names_of scripts = map (λ (x : ScriptData). x.name) scripts
