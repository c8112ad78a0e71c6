-- The notes of a job's files that couldn't be read.
use Rattle.std.proofs.Common.{◌≡◌, ◌⊎◌, ℕ, Bool, true, false, List, [], inl, inr, refl}
use Rattle.crush_options.specs.declared.parsed_options.Options.{Options}
use Rattle.crush_input.specs.declared.fault.RunFault.{RunFault}
use Rattle.crush_input.specs.declared.fault.RunFault.TheVariants as run
use Rattle.crush_input.specs.Notes.{AreNotesOfFile}
use Rattle.crush_input.specs.Options.{IsFile, AreNotesOfInputFault, IsPartUnread, AreNotesOfFailedRead, IsScript}

-- the note about a file that the options name is a note of the job
unread_part : (options : Options) (name notes : List ℕ) → IsFile options.file name ⊎ IsScript options.scripts.items name → AreNotesOfFile options.mode.explain name run.Read notes → AreNotesOfFailedRead options notes
unread_part options name notes named told = (told.0, at options.mode.explain refl)
  where
    at : (b : Bool) → options.mode.explain ≡ b → (notes ≡ []) ⊎ IsPartUnread options notes
    at true on = inr (record { name = name; named = named; unread = told.1 on })
    at false quiet = inl (told.0 quiet)

pub part_noted : (options : Options) (name : List ℕ) (f : RunFault) (notes : List ℕ) → IsFile options.file name ⊎ IsScript options.scripts.items name → AreNotesOfFile options.mode.explain name f notes → AreNotesOfInputFault options f notes
part_noted options name (run.Job j) notes named told = told
part_noted options name run.Read notes named told = unread_part options name notes named told
part_noted options name run.Write notes named told = told
part_noted options name run.Memory notes named told = told
part_noted options name run.Thread notes named told = told
part_noted options name (run.Refused n) notes named told = told
part_noted options name (run.Made n) notes named told = told
part_noted options name (run.Conflicts n) notes named told = told
part_noted options name (run.Differs n) notes named told = told
part_noted options name run.NoItem notes named told = told
part_noted options name run.NoType notes named told = told
part_noted options name run.NoClass notes named told = told
part_noted options name (run.SecondMap w s) notes named told = told

-- it is right for each fault that there are no notes
pub quiet_part : (options : Options) (f : RunFault) (notes : List ℕ) → notes ≡ [] → AreNotesOfInputFault options f notes
quiet_part options (run.Job j) notes none = none
quiet_part options run.Read notes none = (λ quiet. none, inl none)
quiet_part options run.Write notes none = none
quiet_part options run.Memory notes none = none
quiet_part options run.Thread notes none = none
quiet_part options (run.Refused n) notes none = none
quiet_part options (run.Made n) notes none = none
quiet_part options (run.Conflicts n) notes none = none
quiet_part options (run.Differs n) notes none = none
quiet_part options run.NoItem notes none = none
quiet_part options run.NoType notes none = none
quiet_part options run.NoClass notes none = none
quiet_part options (run.SecondMap w s) notes none = none
