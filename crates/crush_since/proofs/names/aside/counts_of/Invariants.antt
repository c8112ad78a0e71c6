use Rattle.std.proofs.Common.{◌≡◌, ◌≤◌, List, map, take}
use Rattle.std.specs.List.{count_by}
use Rattle.crush_model.specs.Table.{Row}
use Rattle.crush_items.specs.Items.{HasEntries, item_entry}
use Rattle.crush_compare.specs.Comparison.{pair_items}
use Rattle.crush_since.specs.Aside.{has_other_class_ids, has_other_id, of_pair}
use Rattle.crush_since.proofs.names.aside.counts_of.Given as goal

-- the counts are those of the pairs visited so far
abbrev pub invariant-loop-pair : goal.invariant-loop-pair
invariant-loop-pair g l = record {
  ids : l.ids ≡ count_by (λ p. of_pair has_other_id (pair_items l.both p)) (take l.pair-index l.pairs);
  few_ids : l.ids ≤ l.pair-index;
  class_ids : (t u : List Row) → HasEntries t (map item_entry l.both.old.all.items) → HasEntries u (map item_entry l.both.new.all.items)
      → l.class_ids ≡ count_by (λ p. of_pair (has_other_class_ids t u) (pair_items l.both p)) (take l.pair-index l.pairs);
  few_class_ids : l.class_ids ≤ l.pair-index;
}
