-- The counts of the items that differ, for each kind of difference, if items are matched by names.
use Rattle.std.specs.Prelude.{◌+◌, Bool, not, List, Option, Some, is_some}
use Rattle.std.specs.List.{count_by}
use Rattle.crush_model.specs.Count.{one_if}
use Rattle.crush_model.specs.Table.{Row}
use Rattle.crush_items.specs.ItemData.{ItemData}
use Rattle.crush_since.specs.Tallies.{in_both, is_made, is_removed, is_reweighed, is_reclassed}
use Rattle.crush_since.specs.declared.since.tally.Tally.{Tally}
use Rattle.crush_items.specs.Tree.{WalkStepData, tree_rows}
use Rattle.crush_compare.specs.declared.identity.Devices.TheVariants.{ByName}
use Rattle.crush_compare.specs.Named.{counterpart}
use Rattle.crush_compare.specs.NamedPairs.{PairData, step_item}
use Rattle.crush_since.specs.Stays.{same_place}

-- TESTS. The first says whether both tables have an item, in different places. A place is the name of the parent, or `(root)` or `(unplaced)` if the item has no parent. The second says whether the item that a step of the old table's tree visits has no counterpart in the new table
abbrev pub is_moved_by_name : Option ItemData → Option ItemData → Bool
is_moved_by_name before after = in_both (λ x y. not (same_place x y)) before after

abbrev pub is_gone_by_name : List Row → List Row → WalkStepData → Bool
is_gone_by_name t u step = not (is_some (counterpart ByName u (step_item t step)))

-- the result of a test for the item that a step of the new table's tree visits and for its counterpart
abbrev pub both_meet : (Option ItemData → Option ItemData → Bool) → List Row → List Row → WalkStepData → Bool
both_meet test t u step = test (counterpart ByName t (step_item u step)) (Some (step_item u step))

-- the result of a test for the items of a pair; and, for each test, the number of pairs that meet the test. The count of renamed items is 0, because items are matched by their names
abbrev pub pair_meets : (Option ItemData → Option ItemData → Bool) → PairData → Bool
pair_meets test p = test p.before p.after

abbrev pub pairs_tally : {X : Type 0} → (X → PairData) → List X → Tally
pairs_tally see ps = record {
  made = count_by (λ p. pair_meets is_made (see p)) ps;
  removed = count_by (λ p. pair_meets is_removed (see p)) ps;
  renamed = 0;
  moved = count_by (λ p. pair_meets is_moved_by_name (see p)) ps;
  reweighed = count_by (λ p. pair_meets is_reweighed (see p)) ps;
  reclassed = count_by (λ p. pair_meets is_reclassed (see p)) ps;
}

-- the counts after one more pair
abbrev pub tally_plus : Tally → Option ItemData → Option ItemData → Tally
tally_plus n before after = record {
  made = n.made + one_if (is_made before after);
  removed = n.removed + one_if (is_removed before after);
  renamed = n.renamed;
  moved = n.moved + one_if (is_moved_by_name before after);
  reweighed = n.reweighed + one_if (is_reweighed before after);
  reclassed = n.reclassed + one_if (is_reclassed before after);
}

-- COUNTS of the items of two tables, for each kind of difference, if items are matched by names
abbrev pub tally_by_name : List Row → List Row → Tally
tally_by_name t u = record {
  made = count_by (both_meet is_made t u) (tree_rows u);
  removed = count_by (is_gone_by_name t u) (tree_rows t);
  renamed = 0;
  moved = count_by (both_meet is_moved_by_name t u) (tree_rows u);
  reweighed = count_by (both_meet is_reweighed t u) (tree_rows u);
  reclassed = count_by (both_meet is_reclassed t u) (tree_rows u);
}
