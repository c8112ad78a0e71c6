-- The counts of the items that differ, for each kind of difference.
use Rattle.std.specs.Prelude.{ℕ, ◌+◌, ◌<◌, ◌^◌, ◌==◌, Bool, true, false, not, List, ◌++◌, Option, None, Some, codes, decimal, bytes_eq}
use Rattle.std.specs.List.{count_by}
use Rattle.crush_units.specs.declared.id.ItemId.{ItemId}
use Rattle.crush_model.specs.Count.{one_if}
use Rattle.crush_model.specs.Table.{Row}
use Rattle.crush_compare.specs.Equal.{same_option, same_text}
use Rattle.crush_items.specs.ItemData.{ItemData, item_of}
use Rattle.crush_since.specs.declared.since.tally.Tally.{Tally}

-- TESTS of what two tables say about an id: whether only the second table has the item, and whether only the first table has it
abbrev pub is_made : Option ItemData → Option ItemData → Bool
is_made None (Some b) = true
is_made None None = false
is_made (Some a) b = false

abbrev pub is_removed : Option ItemData → Option ItemData → Bool
is_removed before after = is_made after before

-- whether both tables have the item, and the test is true for what they say about it. The tests that follow are about the name, the parent, the weight and the class
abbrev pub in_both : (ItemData → ItemData → Bool) → Option ItemData → Option ItemData → Bool
in_both test (Some a) (Some b) = test a b
in_both test (Some a) None = false
in_both test None b = false

abbrev pub is_renamed : Option ItemData → Option ItemData → Bool
is_renamed before after = in_both (λ a b. not (bytes_eq a.view.name b.view.name)) before after

abbrev pub is_moved : Option ItemData → Option ItemData → Bool
is_moved before after = in_both (λ a b. not (same_option a.view.parent b.view.parent)) before after

abbrev pub is_reweighed : Option ItemData → Option ItemData → Bool
is_reweighed before after = in_both (λ a b. not (a.view.weight == b.view.weight)) before after

abbrev pub is_reclassed : Option ItemData → Option ItemData → Bool
is_reclassed before after = in_both (λ a b. not (same_text a.view.class b.view.class)) before after

-- the number of ids for which a test is true. The test is about what the two tables say about the id
abbrev pub count : (Option ItemData → Option ItemData → Bool) → List Row → List Row → List ItemId → ℕ
count test t u ids = count_by (λ i. test (item_of t i) (item_of u i)) ids

abbrev pub tally_of : List Row → List Row → List ItemId → Tally
tally_of t u ids = record {
  made = count is_made t u ids;
  removed = count is_removed t u ids;
  renamed = count is_renamed t u ids;
  moved = count is_moved t u ids;
  reweighed = count is_reweighed t u ids;
  reclassed = count is_reclassed t u ids;
}

-- the counts if there are no items
abbrev pub no_tally : Tally
no_tally = record { made = 0; removed = 0; renamed = 0; moved = 0; reweighed = 0; reclassed = 0 }

-- the counts after one more item, given what the two tables say about it
abbrev pub tally_with : Tally → Option ItemData → Option ItemData → Tally
tally_with n before after = record {
  made = n.made + one_if (is_made before after);
  removed = n.removed + one_if (is_removed before after);
  renamed = n.renamed + one_if (is_renamed before after);
  moved = n.moved + one_if (is_moved before after);
  reweighed = n.reweighed + one_if (is_reweighed before after);
  reclassed = n.reclassed + one_if (is_reclassed before after);
}

-- each count is so small that 1 can be added to it without an overflow of 64 bits
pub record HasRoom (n : Tally) : Type 0 where
  pub made : n.made + 1 < 2 ^ 64
  pub removed : n.removed + 1 < 2 ^ 64
  pub renamed : n.renamed + 1 < 2 ^ 64
  pub moved : n.moved + 1 < 2 ^ 64
  pub reweighed : n.reweighed + 1 < 2 ^ 64
  pub reclassed : n.reclassed + 1 < 2 ^ 64

-- the line of the counts
abbrev pub counted : ℕ → List ℕ → List ℕ
counted n what = decimal n ++ what

unfoldable pub first_counts : Tally → List ℕ
first_counts n = counted n.made (codes " made, ") ++ counted n.removed (codes " removed, ") ++ counted n.renamed (codes " renamed, ")

unfoldable pub last_counts : Tally → List ℕ
last_counts n = counted n.moved (codes " moved, ") ++ counted n.reweighed (codes " of other weight, ") ++ counted n.reclassed (codes " of other class\n")

unfoldable pub counts_line : Tally → List ℕ
counts_line n = first_counts n ++ last_counts n
