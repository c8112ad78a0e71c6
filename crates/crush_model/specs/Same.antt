-- When two tables are the same: they may differ only in the order of their rows, and each bucket must have its items in the same order in both.
use Rattle.std.specs.Prelude.{◌≡◌, ℕ, List}
use Rattle.crush_model.specs.Reordered.{IsReordered}
use Rattle.crush_model.specs.Table.{Row, kids}

-- two tables are the same: they have the same rows, each equally often and in any order, and each bucket has the same items in the same order
pub record Same (t u : List Row) : Type 0 where
  pub rows : IsReordered t u
  pub kids : (b : ℕ) → kids t b ≡ kids u b
