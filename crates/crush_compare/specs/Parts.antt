-- Two laws: which items the walk from an item downward visits, and which items are in a run of positions.
use Rattle.std.specs.Prelude.{◌≡◌, ℕ, true, ◌&&◌, nat_le, nat_lt, List, Some, length, map, drop}
use Rattle.std.specs.List.{count_by, slice_get, slice_range}
use Rattle.crush_units.specs.declared.id.ItemId.{ItemId}
use Rattle.crush_units.specs.Id.{same_id}
use Rattle.crush_model.specs.Count.{one_if}
use Rattle.crush_model.specs.Lawful.{Lawful}
use Rattle.crush_model.specs.Table.{Row, is_there}
use Rattle.crush_items.specs.Entries.{EntryData}
use Rattle.crush_items.specs.Items.{HasEntries, entry_id}
use Rattle.crush_items.specs.Runs.{first_with_below}
use Rattle.crush_items.specs.Tree.{WalkStepData, steps_at, tree_rows}
use Rattle.crush_compare.specs.Named.{is_at}

-- PART: in a lawful table, the walk from the item i downward (`steps_at`) visits an item j of the table once if j is i or below i, and never otherwise
abbrev pub StepsArePart : Type 0
StepsArePart = (t : List Row) (i j : ItemId) (depth : ℕ) → Lawful t → is_there t j ≡ true → count_by (λ (s : WalkStepData). same_id s.item.id j) (steps_at t (length t) depth i) ≡ one_if (is_at t i j)

-- A RUN IS A PART: the list es has all items of a lawful table, in the order of the table's tree. Then a position k is in the run [from, to) of the item `top` if and only if the item at k is `top` or below `top`
abbrev pub RunIsPart : Type 0
RunIsPart = (t : List Row) (es : List EntryData) (from to k : ℕ) (top e : EntryData) → Lawful t → HasEntries t es → map (λ (x : EntryData). x.item.view) es ≡ map (λ (s : WalkStepData). s.item) (tree_rows t) → slice_get es from ≡ Some top → slice_get es k ≡ Some e
    → slice_range (tree_rows t) from to ≡ first_with_below t (drop from (tree_rows t)) → (nat_le from k && nat_lt k to) ≡ is_at t (entry_id top) (entry_id e)
