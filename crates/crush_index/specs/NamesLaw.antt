-- How the names in an index have to be updated after a change of the table of rows. In a law with `old` and `new`, the names `old` are right for the table before the change, and the names `new` are right for the table after it. In a law with `names`, no update is needed: the same names are right before and after.
use Rattle.std.specs.Prelude.{◌≡◌, ℕ, List, [], ◌∷◌, ◌++◌, Some, None, Bool, false, ◌==◌}
use Rattle.crush_units.specs.declared.id.ItemId.{ItemId}
use Rattle.crush_units.specs.declared.id.ItemId.TheVariants.{Bucket}
use Rattle.crush_model.specs.Table.{Row, is_named, name_of}
use Rattle.crush_model.specs.Lawful.{Lawful}
use Rattle.crush_model.specs.Same.{Same}
use Rattle.crush_model.specs.Columns.{set_weights, set_name, without_row, exchange_parents, exchange_names, swap_buckets}
use Rattle.crush_index.specs.declared.names.Names.{Names}
use Rattle.crush_index.specs.NamesAnswers.{AreNamesOf, AnswersOne, AnswersTwo}

-- names that are right for a lawful table are right for each table that has the same rows, and in which each bucket has the same items in the same order
abbrev pub NamesOfSame : Type 0
NamesOfSame =
    (names : Names) (t u : List Row) → Lawful t → Same t u → AreNamesOf t names → AreNamesOf u names

-- new weights need no update
abbrev pub NamesOfWeights : Type 0
NamesOfWeights =
    (names : Names) (t : List Row) (which : Row → Bool) (w : ℕ) → AreNamesOf t names → AreNamesOf (set_weights which w t) names

-- an exchange of the items of two buckets, without their names, needs no update
abbrev pub NamesOfParents : Type 0
NamesOfParents =
    (names : Names) (t : List Row) (a b : ℕ) → AreNamesOf t names → AreNamesOf (exchange_parents a b t) names

-- a row is added at the end, with a name that no row has: the name gets the row's id
abbrev pub NamesFollowRow : Type 0
NamesFollowRow =
    (old new : Names) (t : List Row) (r : Row) → AreNamesOf t old → is_named t r.name ≡ false → AnswersOne old new r.name (Some r.id) → AreNamesOf (t ++ r ∷ []) new

-- an item's row is removed from a lawful table: the item's name is removed from the index
abbrev pub NamesFollowWithout : Type 0
NamesFollowWithout =
    (old new : Names) (t : List Row) (i : ItemId) (name : List ℕ) → Lawful t → AreNamesOf t old → name_of t i ≡ Some name → AnswersOne old new name None → AreNamesOf (without_row i t) new

-- an item gets another name, and the table is lawful before and after: the new name gets the item's id, and the old name is removed
abbrev pub NamesFollowName : Type 0
NamesFollowName =
    (old new : Names) (t : List Row) (i : ItemId) (from to : List ℕ) → Lawful t → Lawful (set_name i to t) → AreNamesOf t old → name_of t i ≡ Some from
    → AnswersTwo old new to (Some i) from None → AreNamesOf (set_name i to t) new

-- two different buckets exchange their names and items: each of the two names gets the id of the other bucket. The law requires that the table is lawful before the exchange, and that it would be lawful if the two buckets exchanged only their names
abbrev pub NamesFollowSwap : Type 0
NamesFollowSwap =
    (old new : Names) (t : List Row) (a b : ℕ) (first second : List ℕ) → Lawful t → Lawful (exchange_names a b t) → (a == b) ≡ false → AreNamesOf t old
    → name_of t (Bucket a) ≡ Some first → name_of t (Bucket b) ≡ Some second → AnswersTwo old new first (Some (Bucket b)) second (Some (Bucket a)) → AreNamesOf (swap_buckets a b t) new
