-- The output that a command line selects, and the second map that this output may need; also the faults that may occur when the files of a command line are read, and the notes of these faults.
use Rattle.std.specs.Prelude.{◌≡◌, ◌⊎◌, ℕ, ◌<◌, ◌≤◌, Bool, false, List, [], Option, None, Some, Result, Err, IfSome, String, length, option_map, slice_index_or}
use Rattle.crush_model.specs.Table.{Row}
use Rattle.crush_model.specs.Stands.{Stands}
use Rattle.crush_map.specs.MapData.{MapData}
use Rattle.crush_text.specs.Document.{IsMapText}
use Rattle.crush_text.specs.Flaw.{IsMapFlaw}
use Rattle.crush_options.specs.declared.parsed_options.Options.{Options}
use Rattle.crush_options.specs.declared.parsed_options.OutputSpec.{OutputSpec}
use Rattle.crush_options.specs.declared.parsed_options.OutputSpec.TheVariants as output_spec
use Rattle.crush_options.specs.declared.parsed_options.TreePartSpec.{TreePartSpec}
use Rattle.crush_options.specs.declared.parsed_options.Since.{Since}
use Rattle.crush_options.specs.declared.parsed_options.ChangeTree.{ChangeTree}
use Rattle.crush_options.specs.declared.parsed_options.Target.{Target}
use Rattle.crush_units.specs.declared.limits.TheConstants.{LONGEST_JOB}
use Rattle.crush_input.specs.declared.output.Output.{Output}
use Rattle.crush_input.specs.declared.output.Output.TheVariants as output
use Rattle.crush_input.specs.declared.output.OldMap.{OldMap}
use Rattle.crush_input.specs.declared.output.OldTree.{OldTree}
use Rattle.crush_input.specs.declared.output.TargetMap.{TargetMap}
use Rattle.crush_input.specs.declared.fault.RunFault.{RunFault}
use Rattle.crush_input.specs.declared.fault.RunFault.TheVariants as run
use Rattle.crush_input.specs.declared.fault.SecondMapFault.{SecondMapFault}
use Rattle.crush_input.specs.declared.fault.SecondMapFault.TheVariants as unread
use Rattle.crush_input.specs.declared.fault.SecondMap.{SecondMap}
use Rattle.crush_input.specs.declared.fault.SecondMap.TheVariants as second
use Rattle.crush_input.specs.declared.summary.Summary.{Summary}
use Rattle.crush_input.specs.Input.{job_bytes}
use Rattle.crush_input.specs.Notes.{AreNotesOfSecondMap, AreNotesOfResult, IsNoteOfUnreadFile}
use Rattle.crush_input.specs.Origins.{job_origin}

-- the bytes are no longer than a job may be, and they are the text of this map
pub record IsTextOf (m : MapData) (bytes : List ℕ) : Type 0 where
  pub short : length bytes ≤ LONGEST_JOB
  pub table : List Row
  pub adjusted : ℕ
  pub text : IsMapText bytes m.setting table adjusted
  pub stands : Stands m.forest table

-- the bytes of a string; none if there is no string
abbrev pub name_text : {Z : Type 0} → Option (String Z) → Option (List ℕ)
name_text name = option_map (λ n. n.bytes.items) name

-- the part has the same names as the part `words`, which is the part on the command line
pub record IsPartOf (words part : TreePartSpec) : Type 0 where
  pub under : name_text part.under ≡ name_text words.under
  pub down_to : name_text part.down_to ≡ name_text words.down_to
  pub class : name_text part.class ≡ name_text words.class

-- the output is a tree, or the part of a tree that has the names of the part `words`
abbrev pub IsTreeOf : TreePartSpec → Output → Type 0
IsTreeOf words (output.Tree part) = IsPartOf words part
IsTreeOf words what = ⊥

-- the old map is the map in the file that the command line names, if the file's bytes are known. The values of `by_name` and `under` are those of the command line
pub record IsOldOf (content : List ℕ → Option (List ℕ)) (words : Since) (old : OldMap) : Type 0 where
  pub map : IfSome (content words.map.bytes.items) (IsTextOf old.map)
  pub by_name : old.by_name ≡ words.by_name
  pub under : name_text old.under ≡ name_text words.under

-- the old map of a tree of changes is the map in the file that the command line names, if the file's bytes are known. The part of the tree is the one that the command line selects
pub record IsOldTreeOf (content : List ℕ → Option (List ℕ)) (words : ChangeTree) (old : OldTree) : Type 0 where
  pub map : IfSome (content words.map.bytes.items) (IsTextOf old.map)
  pub part : IsPartOf words.part old.part

-- the wanted map is the map in the file that the command line names, if the file's bytes are known. The values of `as_ceph`, `by_name` and `under` are those of the command line
pub record IsTargetOf (content : List ℕ → Option (List ℕ)) (words : Target) (target : TargetMap) : Type 0 where
  pub map : IfSome (content words.map.bytes.items) (IsTextOf target.map)
  pub as_ceph : target.as_ceph ≡ words.as_ceph
  pub by_name : target.by_name ≡ words.by_name
  pub under : name_text target.under ≡ name_text words.under

-- the output `what` is the one that the command line selects. If it needs a second map, this is the map in the second map's file, if the file's bytes are known
abbrev pub IsOutputOf : (List ℕ → Option (List ℕ)) → OutputSpec → Output → Type 0
IsOutputOf content output_spec.Map what = what ≡ output.Map
IsOutputOf content (output_spec.Tree part) what = IsTreeOf part what
IsOutputOf content output_spec.AsCeph what = what ≡ output.AsCeph
IsOutputOf content (output_spec.Since words) (output.Since old) = IsOldOf content words old
IsOutputOf content (output_spec.Since words) what = ⊥
IsOutputOf content (output_spec.Changes words) (output.Changes old) = IsOldTreeOf content words old
IsOutputOf content (output_spec.Changes words) what = ⊥
IsOutputOf content (output_spec.To words) (output.To target) = IsTargetOf content words target
IsOutputOf content (output_spec.To words) what = ⊥

-- the fault of the bytes of the second map's file: the bytes have this flaw, or there are more of them than a job may have. The definition says nothing about a failed read.
abbrev pub IsSecondMapFault : List ℕ → SecondMapFault → Type 0
IsSecondMapFault bytes (unread.Text fault) = (length bytes ≤ LONGEST_JOB) × IsMapFlaw bytes fault
IsSecondMapFault bytes unread.TooLong = LONGEST_JOB < length bytes
IsSecondMapFault bytes unread.Read = Unit {0}

-- the faults with which reading the second map may fail; `why` is the option that names this map. The fault is a fault of this map, or that memory ran out. If the bytes of the map's file are known, they have the fault of the map, unless the file couldn't be read
abbrev pub IsMapFault : SecondMap → Option (List ℕ) → RunFault → Type 0
IsMapFault why all (run.SecondMap which fault) = (which ≡ why) × IfSome all (λ bytes. IsSecondMapFault bytes fault)
IsMapFault why all run.Memory = Unit {0}
IsMapFault why all fault = ⊥

-- the faults with which creating the output may fail. If the output needs a second map, they are the faults of `IsMapFault`. If the output is a tree of the map, the only fault is that memory ran out. Any other output has no fault
abbrev pub IsOutputFault : (List ℕ → Option (List ℕ)) → OutputSpec → RunFault → Type 0
IsOutputFault content (output_spec.Tree part) fault = fault ≡ run.Memory
IsOutputFault content (output_spec.Since words) fault = IsMapFault second.Since (content words.map.bytes.items) fault
IsOutputFault content (output_spec.Changes words) fault = IsMapFault second.Since (content words.map.bytes.items) fault
IsOutputFault content (output_spec.To words) fault = IsMapFault second.To (content words.map.bytes.items) fault
IsOutputFault content what fault = ⊥

-- the notes of a fault of `IsOutputFault`: the notes about the second map's file if the output needs a second map, and no notes for a tree of the map
abbrev pub AreNotesOfOutputFault : (List ℕ → Option (List ℕ)) → Bool → OutputSpec → RunFault → List ℕ → Type 0
AreNotesOfOutputFault content explain (output_spec.Tree part) fault notes = notes ≡ []
AreNotesOfOutputFault content explain (output_spec.Since words) fault notes = AreNotesOfSecondMap explain words.map.bytes.items (content words.map.bytes.items) fault notes
AreNotesOfOutputFault content explain (output_spec.Changes words) fault notes = AreNotesOfSecondMap explain words.map.bytes.items (content words.map.bytes.items) fault notes
AreNotesOfOutputFault content explain (output_spec.To words) fault notes = AreNotesOfSecondMap explain words.map.bytes.items (content words.map.bytes.items) fault notes
AreNotesOfOutputFault content explain what fault notes = ⊥

-- one of these files of scripts is called `name`
pub record IsScript {Z : Type 0} (scripts : List (String Z)) (name : List ℕ) : Type 0 where
  pub place : ℕ
  pub there : place < length scripts
  pub script : String Z
  pub is : script ≡ slice_index_or scripts place script
  pub bytes : script.bytes.items ≡ name

-- the job's file is called `name`; false if the job is read from standard input
abbrev pub IsFile : {Z : Type 0} → Option (String Z) → List ℕ → Type 0
IsFile None name = ⊥
IsFile (Some file) name = file.bytes.items ≡ name

-- the notes say that a file can't be opened or read. The file is the job's file or a file of scripts, and the options name it
pub record IsPartUnread (options : Options) (notes : List ℕ) : Type 0 where
  pub name : List ℕ
  pub named : IsFile options.file name ⊎ IsScript options.scripts.items name
  pub unread : IsNoteOfUnreadFile name notes

-- NOTES OF A JOB that couldn't be read: without `--explain` none. With `--explain`, either none or the note about a file, as `IsPartUnread` says
abbrev pub AreNotesOfFailedRead : Options → List ℕ → Type 0
AreNotesOfFailedRead options notes = (options.mode.explain ≡ false → notes ≡ []) × ((notes ≡ []) ⊎ IsPartUnread options notes)

-- the notes of a fault that occurs while the bytes of a job are read: after a failed read, the notes that `AreNotesOfFailedRead` allows, and none after any other fault
abbrev pub AreNotesOfInputFault : Options → RunFault → List ℕ → Type 0
AreNotesOfInputFault options run.Read notes = AreNotesOfFailedRead options notes
AreNotesOfInputFault options fault notes = notes ≡ []

-- NOTES FOR OPTIONS: the notes of a run with these options. After a fault of the second map, they are the notes about the file of that map. After a failed read, they are the notes of a job that couldn't be read. For any other result, they are notes that every run may have for this result (`AreNotesOfResult`). If the notes give the place of a fault of the job, it is the place in the file from which the line with the fault comes.
abbrev pub AreNotesForOptions : (List ℕ → Option (List ℕ)) → Options → Option (List ℕ) → Result Summary RunFault → List ℕ → Type 0
AreNotesForOptions content options input (Err (run.SecondMap which fault)) notes = AreNotesOfOutputFault content options.mode.explain options.output_spec (run.SecondMap which fault) notes
AreNotesForOptions content options input (Err run.Read) notes = AreNotesOfFailedRead options notes
AreNotesForOptions content options input result notes = AreNotesOfResult options.mode.explain (job_origin content options input) (job_bytes content options input) result notes
