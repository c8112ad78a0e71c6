-- How the used ids in an index have to be updated after a change of the table of rows. In a law with `old` and `new`, the used ids `old` are right for the table before the change, and the used ids `new` are right for the table after it. In a law with `used`, no update is needed: the same used ids are right before and after.
use Rattle.std.specs.Prelude.{◌≡◌, ℕ, List, [], ◌∷◌, ◌++◌, Some, Bool, false, ◌||◌, if◌then◌else◌, map}
use Rattle.crush_units.specs.declared.id.ItemId.{ItemId}
use Rattle.crush_model.specs.Items.{ShadowData}
use Rattle.crush_model.specs.Table.{Row, row_of, member, bucket_ids}
use Rattle.crush_model.specs.Lawful.{Lawful}
use Rattle.crush_model.specs.Same.{Same}
use Rattle.crush_model.specs.Columns.{set_weights, set_name, without_row, swap_buckets}
use Rattle.crush_index.specs.declared.used.UsedIds.{UsedIds}
use Rattle.crush_index.specs.UsedAnswers.{used_answer, AreUsedIn}

-- the ids that one row uses: its class ids, and its own id if it is the row of a bucket
abbrev pub uses : Row → List ℕ
uses r = bucket_ids r.id ++ map (λ (c : ShadowData). c.id) r.class_ids

-- used ids that are right for a table are right for each table that has the same rows, and in which each bucket has the same items in the same order
abbrev pub UsedOfSame : Type 0
UsedOfSame = (used : UsedIds) (t u : List Row) → Same t u → AreUsedIn t used → AreUsedIn u used

-- new weights need no update
abbrev pub UsedOfWeights : Type 0
UsedOfWeights =
    (used : UsedIds) (t : List Row) (which : Row → Bool) (w : ℕ) → AreUsedIn t used → AreUsedIn (set_weights which w t) used

-- a new name needs no update
abbrev pub UsedOfNames : Type 0
UsedOfNames =
    (used : UsedIds) (t : List Row) (i : ItemId) (name : List ℕ) → AreUsedIn t used → AreUsedIn (set_name i name t) used

-- an exchange of the names and items of two buckets needs no update
abbrev pub UsedOfSwap : Type 0
UsedOfSwap =
    (used : UsedIds) (t : List Row) (a b : ℕ) → AreUsedIn t used → AreUsedIn (swap_buckets a b t) used

-- a row is added at the end: the ids that it uses are then used
abbrev pub UsedFollowRow : Type 0
UsedFollowRow =
    (old new : UsedIds) (t : List Row) (r : Row) → AreUsedIn t old → ((k : ℕ) → used_answer new k ≡ (used_answer old k || member k (uses r)))
    → AreUsedIn (t ++ r ∷ []) new

-- an item's row is removed from a lawful table: the ids that it used are then free
abbrev pub UsedFollowWithout : Type 0
UsedFollowWithout =
    (old new : UsedIds) (t : List Row) (i : ItemId) (r : Row) → Lawful t → AreUsedIn t old → row_of t i ≡ Some r
    → ((k : ℕ) → used_answer new k ≡ (if member k (uses r) then false else used_answer old k)) → AreUsedIn (without_row i t) new
