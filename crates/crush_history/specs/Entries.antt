-- Says that the operator of each entry of a history is one of the given operators.
use Rattle.std.specs.Prelude.{ℕ, ◌<◌, List, All}
use Rattle.crush_history.specs.declared.entry.Entry.{Entry}

-- the operator of each entry is one of the first n operators: the operator's index, counted from 0, is below n
abbrev pub AreOf : ℕ → List Entry → Type 0
AreOf n entries = All (λ (e : Entry). e.operator < n) entries
