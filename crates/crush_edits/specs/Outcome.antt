-- How the result of a call in the code is related to the result that the model gives for the edit of the table.
use Rattle.std.specs.Prelude.{◌≡◌, ℕ, List, true}
use Rattle.crush_model.specs.Table.{Row}
use Rattle.crush_edits.specs.declared.refusal.Done.{Done}
use Rattle.crush_edits.specs.Answer.{Answer, done}

-- the result says that the edit isn't refused, and that it changes the table
abbrev pub IsChange : Answer → Type 0
IsChange a = (made : ℕ) × (u : List Row) × (a ≡ done true made u)

-- the edit isn't refused, d says whether the table has changed and how many buckets were created, and the table after the edit has the property `stands`: the value that the code has edited represents this table
abbrev pub IsDone : (List Row → Type 0) → Answer → Done → Type 0
IsDone stands a d = (u : List Row) × (a ≡ done d.changed d.made u) × stands u
