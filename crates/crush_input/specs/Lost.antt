-- The lost changes of the operators of a run: in which case they end the run, and which notes list them.
use Rattle.std.specs.Prelude.{◌≡◌, ℕ, ◌<◌, ◌==◌, Bool, true, List, [], ◌++◌, Result, Ok, Err, if◌then◌else◌}
use Rattle.crush_input.specs.declared.fault.RunFault.{RunFault}
use Rattle.crush_input.specs.declared.fault.RunFault.TheVariants as run
use Rattle.crush_input.specs.declared.lost.LostChanges.{LostChanges}
use Rattle.crush_input.specs.Report.{conflicts_line}

-- LOST CHANGES: how many items have a lost change, and a line for each of these items
pub record LostData : Type 0 where
  pub count : ℕ
  pub lines : List ℕ

abbrev pub lost_data : LostChanges → LostData
lost_data l = record { count = l.count; lines = l.lines.items }

-- the notes on lost changes if something else has ended the run: the line with the number of items that have a lost change, and then the lines of these items; nothing if there are none
abbrev pub conflict_notes : LostData → List ℕ
conflict_notes lost = if lost.count == 0 then [] else conflicts_line lost.count ++ lost.lines

-- LOSSLESS: suppose that a run looks for lost changes. If the run succeeds, or if it ends because of a failed write, of remaining differences or of a name that the map doesn't have, then no change is lost. A run that ends because of lost changes looks for them, and its fault has the number of items with a lost change, which is at least 1. The definition says nothing about other faults.
abbrev pub IsLossless : {X : Type 0} → Bool → LostData → Result X RunFault → Type 0
IsLossless conflicts lost (Ok x) = conflicts ≡ true → lost.count ≡ 0
IsLossless conflicts lost (Err run.Write) = conflicts ≡ true → lost.count ≡ 0
IsLossless conflicts lost (Err (run.Conflicts n)) = (conflicts ≡ true) × (n ≡ lost.count) × (0 < n)
IsLossless conflicts lost (Err (run.Differs n)) = conflicts ≡ true → lost.count ≡ 0
IsLossless conflicts lost (Err run.NoItem) = conflicts ≡ true → lost.count ≡ 0
IsLossless conflicts lost (Err run.NoType) = conflicts ≡ true → lost.count ≡ 0
IsLossless conflicts lost (Err run.NoClass) = conflicts ≡ true → lost.count ≡ 0
IsLossless conflicts lost (Err fault) = Unit {0}

-- the faults with which the check for lost changes may fail. The only one is Conflicts, and only for a run that looks for lost changes
abbrev pub IsConflictsFault : Bool → RunFault → Type 0
IsConflictsFault conflicts (run.Conflicts n) = conflicts ≡ true
IsConflictsFault conflicts fault = ⊥
