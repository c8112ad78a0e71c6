-- An item that has been taken out of the forest and isn't yet in the bucket that is being filled.
use Rattle.std.proofs.Common.{◌≡◌, ℕ, ◌+◌, ◌≤◌, Bool, true, false, not, ◌==◌, List, ◌++◌, ap, sym, subst, ◌∙◌, arith, [], ◌∷◌}
use Rattle.std.proofs.lemmas.Bool.{not-false}
use Rattle.std.specs.Prelude.{Option, Some, None, if◌then◌else◌, nat_lt}
use Rattle.crush_units.specs.declared.limits.TheConstants.{HEAVIEST_DEVICE}
use Rattle.crush_units.specs.declared.id.ItemId.{ItemId}
use Rattle.crush_units.specs.declared.id.ItemId.TheVariants.{Device, Bucket}
use Rattle.crush_units.specs.Id.{same_id}
use Rattle.crush_model.specs.Items.{Items}
use Rattle.crush_model.specs.Law.{IsOne}
use Rattle.crush_model.specs.Same.{Same}
use Rattle.crush_model.specs.Lawful.{Lawful, is_too_heavy}
use Rattle.crush_model.specs.Table.{Row, is_there, is_placed, is_device_id, sum_below}
use Rattle.crush_model.specs.Columns.{table_without, part, is_part}
use Rattle.crush_model.specs.Forest.{ForestData, all_items, rows_of, IsSound}
use Rattle.crush_model.specs.ItemRows.{rows}
use Rattle.crush_model.specs.Stands.{Stands}
use Rattle.crush_model.specs.Stored.{weight_sum, StoresSums}
use Rattle.crush_model.proofs.Stands.{stands_for_rows}
use Rattle.crush_tree.proofs.PartLemmas.{part_one, part_rows, part_sums}
use Rattle.crush_nodes.specs.Ops.{CanCome, part_of}
use Rattle.crush_nodes.specs.declared.place.Place.TheVariants.{Bucket as AtBucket}
use Rattle.crush_model.proofs.Reorder.{reordered-sym}
use Rattle.crush_model.proofs.Found.{Distinct, Distinct-same}
use Rattle.crush_builder.specs.declared.fault.BuildFault.{BuildFault}
use Rattle.crush_builder.specs.declared.fault.BuildFault.TheVariants.{BadWeight, UnknownItem, SecondParent, SumTooLarge}
use Rattle.crush_builder.specs.Faults.{is_heavy_device, is_closed, item_fault}
use Rattle.crush_builder.proofs.Faults.{passes, none_of_three, closed_there, closed_shut}
use Rattle.crush_builder.proofs.Held.{one_at_most}
use Rattle.std.proofs.lemmas.Bool.Decides.{nat_tests}
use Rattle.crush_builder.specs.Pending.{with_first_weight}
use Rattle.crush_map.specs.WrittenItems.{put_below, weight_or_one, adjustment}
use Rattle.crush_builder.specs.Built.{Draft, Pending, filling, with_next_item, table_with_item}
use Rattle.crush_builder.specs.Building.{BuilderData, BuilderFits, IsRoot, IsDraft, own_draft, is_open}
use Rattle.crush_builder.proofs.Drafts.{own_is_draft}
use Rattle.crush_builder.proofs.ItemSteps.{open_root, is_no_part, root_without, put_table, item_step, item_same, item_heavy, item_distinct, item_small, put_lawful, weighted_sums, weight_to_come}

pub flip : (b c : Bool) → c ≡ not b → b ≡ not c
flip true c h = ap not (sym h)
flip false c h = ap not (sym h)

light_weight : (w : ℕ) → nat_lt HEAVIEST_DEVICE w ≡ false → w ≤ HEAVIEST_DEVICE
light_weight w h = grind (arith, nat_tests)

-- the builder b fills the bucket k, and n is the item i, taken out of b's forest
pub record Coming (b : BuilderData) (i : ItemId) (k : ℕ) (n : Items) : Type 0 where
  pub own : IsDraft b (own_draft b)
  pub fills : b.pending ≡ filling k
  pub other : same_id (Bucket k) i ≡ false
  pub there : (d : Draft) → IsDraft b d → is_there d.table i ≡ true
  pub node : (t : List Row) → Stands b.forest t → Same (rows None n) (part i t)
  pub one : IsOne n
  pub free : (d : Draft) → IsDraft b d → is_placed d.table i ≡ false
  pub sums : StoresSums n

pub item_comes : (b now : BuilderData) (i : ItemId) (k : ℕ) (n : Items) → b ≡ now → IsSound b.forest → BuilderFits b → b.pending ≡ filling k → is_open now.pending i ≡ false
    → ((d : Draft) → IsDraft now d → is_there d.table i ≡ true) → ((t : List Row) → Stands b.forest t → Same (rows None n) (part i t)) → IsOne n
    → ((d : Draft) → IsDraft now d → is_placed d.table i ≡ false) → StoresSums n → Coming b i k n
item_comes b now i k n is sound keeps fills closed there node one free sums = record {
  own = own_is_draft b sound keeps;
  fills = fills;
  other = subst (λ (p : Pending). is_open p i ≡ false) (ap (λ (x : BuilderData). x.pending) (sym is) ∙ fills) closed;
  there = λ d at. there d (subst (λ (x : BuilderData). IsDraft x d) is at);
  node = node;
  one = one;
  free = λ d at. free d (subst (λ (x : BuilderData). IsDraft x d) is at);
  sums = sums;
}

-- `Coming` is true of the part of the forest that consists of the item i and all items below it
pub part_comes : (b now : BuilderData) (i : ItemId) (k : ℕ) → b ≡ now → IsSound b.forest → BuilderFits b → b.pending ≡ filling k → is_open now.pending i ≡ false
    → ((d : Draft) → IsDraft now d → is_there d.table i ≡ true) → ((d : Draft) → IsDraft now d → is_placed d.table i ≡ false) → Coming b i k (part_of i (all_items b.forest))
part_comes b now i k is sound keeps fills closed there free =
    let here : is_there (rows_of b.forest) i ≡ true = there (own_draft b) (subst (λ (x : BuilderData). IsDraft x (own_draft b)) is (own_is_draft b sound keeps)) in
    item_comes b now i k (part_of i (all_items b.forest)) is sound keeps fills closed there (part_rows b.forest sound i here) (part_one b.forest sound i here) free (part_sums b.forest sound i here)

-- WHAT IS TRUE IF AN ITEM HAS NO FAULT
pub record IsClear (d : Draft) (i : ItemId) (w : Option ℕ) : Type 0 where
  pub light : is_heavy_device i w ≡ false
  pub closed : is_closed d i ≡ true
  pub free : is_placed d.table i ≡ false
  pub sums : is_too_heavy (with_next_item d i w).table ≡ false

pub item_clear : (d : Draft) (i : ItemId) (w : Option ℕ) → item_fault d i w ≡ None → IsClear d i w
item_clear d i w h =
    let tests : List (BuildFault × Bool) = (SecondParent, is_placed d.table i) ∷ ((SumTooLarge, is_too_heavy (with_next_item d i w).table) ∷ []) in
    let light = passes BadWeight (is_heavy_device i w) ((UnknownItem, not (is_closed d i)) ∷ tests) h in
    let others = none_of_three UnknownItem SecondParent SumTooLarge (not (is_closed d i)) (is_placed d.table i) (is_too_heavy (with_next_item d i w).table) light.1 in
    record { light = light.0; closed = not-false (is_closed d i) others.0; free = others.1.0; sums = others.1.1 }

pub light_device : (i : ItemId) (w : Option ℕ) → is_heavy_device i w ≡ false → is_device_id i ≡ true → weight_or_one w ≤ HEAVIEST_DEVICE
light_device i None h e = omega arith
light_device (Device x) (Some w) h e = light_weight w h
light_device (Bucket b) (Some w) h e = absurd (let no : false ≡ true = e in cc)

pub clear_comes : (b now : BuilderData) (i : ItemId) (k : ℕ) (n : Items) (w : Option ℕ) → b ≡ now → IsSound b.forest → BuilderFits b → b.pending ≡ filling k → ((d : Draft) → IsDraft now d → item_fault d i w ≡ None)
    → ((t : List Row) → Stands b.forest t → Same (rows None n) (part i t)) → IsOne n → StoresSums n → Coming b i k n
clear_comes b now i k n w is sound keeps fills clear node one sums =
    let at : IsDraft now (own_draft b) = subst (λ (x : BuilderData). IsDraft x (own_draft b)) is (own_is_draft b sound keeps) in
    let shut : is_open b.pending i ≡ false = closed_shut (is_there (rows_of b.forest) i) (is_open b.pending i) (item_clear (own_draft b) i w (clear (own_draft b) at)).closed in
    item_comes b now i k n is sound keeps fills (subst (λ (x : BuilderData). is_open x.pending i ≡ false) is shut)
    (λ d d_at. closed_there (is_there d.table i) (is_open d.pending i) (item_clear d i w (clear d d_at)).closed) node one (λ d d_at. (item_clear d i w (clear d d_at)).free) sums

pub adjustment_most : (t : List Row) (i : ItemId) (w : Option ℕ) → adjustment t i w ≤ 1
adjustment_most t (Device x) w = omega arith
adjustment_most t (Bucket b) None = omega arith
adjustment_most t (Bucket b) (Some w) = one_at_most (not (w == sum_below t b))

-- the weight that the item has in the bucket
pub part_weighs : (f : ForestData) (i : ItemId) (w : ℕ) → IsSound f → is_there (rows_of f) i ≡ true → weight_sum (with_first_weight w (part_of i (all_items f))) ≡ (if is_device_id i then w else weight_sum (part_of i (all_items f)))
part_weighs f i w sound there = weight_to_come (rows_of f) i w (part_of i (all_items f)) there (part_one f sound i there) (part_rows f sound i there (rows_of f) (stands_for_rows f sound))

module _ (b : BuilderData) (i : ItemId) (k : ℕ) (n : Items) (took : Coming b i k n) where
  -- what is true of each draft d that the builder represents
  pub root_at : (d : Draft) → IsDraft b d → IsRoot d.table k
  root_at d at = open_root d.setting d.table d.pending k (sym at.pending ∙ took.fills) at.part

  pub apart_at : (d : Draft) → IsDraft b d → is_part d.table i (Bucket k) ≡ false
  apart_at d at = is_no_part d.table at.stands.lawful i k (root_at d at) took.other

  -- when the item is taken out, the bucket that is being filled is still in the table
  pub left_there : (d : Draft) → IsDraft b d → is_there (table_without i d.table) (Bucket k) ≡ true
  left_there d at = (root_without d.table i k (root_at d at) (apart_at d at)).there

  pub same_at : (w : ℕ) (d : Draft) → IsDraft b d → Same (table_without i d.table ++ rows (Some k) (with_first_weight w n)) (put_below k i w d.table)
  same_at w d at = item_same d.table i k w n at.stands.lawful (took.there d at) (is_no_part d.table at.stands.lawful i k (root_at d at) took.other) took.one (took.node d.table at.stands)

  pub distinct_at : (w : ℕ) (d : Draft) → IsDraft b d → Distinct (table_without i d.table ++ rows (Some k) (with_first_weight w n))
  distinct_at w d at = Distinct-same (reordered-sym (same_at w d at).rows) (item_distinct d.table i k w at.stands.lawful (took.there d at))

  -- the item may be put into the bucket
  pub can_come : (w : ℕ) (d : Draft) → IsDraft b d → CanCome (table_without i d.table) (AtBucket k) (with_first_weight w n)
  can_come w d at = record {
    sums = weighted_sums w n took.sums;
    small = item_small d.table i w n at.stands.lawful (took.free d at) (took.node d.table at.stands) took.sums;
    kind = tt;
    apart = distinct_at w d at;
  }

  -- the test whether the moved item is too heavy has the same result as the test of the draft's table with the item
  put_heavy : (w : ℕ) (d : Draft) → IsDraft b d → (v : Bool) → v ≡ not (is_too_heavy (table_without i d.table ++ rows (Some k) (with_first_weight w n))) → is_too_heavy (put_below k i w d.table) ≡ not v
  put_heavy w d at v e = sym (item_heavy d.table (table_without i d.table ++ rows (Some k) (with_first_weight w n)) i k w at.stands.lawful (took.there d at) (same_at w d at)) ∙ flip _ v e

  pub heavy_at : (w : ℕ) (d : Draft) → IsDraft b d → (v : Bool) → v ≡ not (is_too_heavy (table_without i d.table ++ rows (Some k) (with_first_weight w n))) → is_too_heavy (table_with_item d.pending i w d.table) ≡ not v
  heavy_at w d at v e = ap is_too_heavy (put_table d i k w (sym at.pending ∙ took.fills)) ∙ put_heavy w d at v e

  -- the test of the draft's table, computed from the weight that the item has in the bucket
  pub fits_test : (w v : ℕ) → v ≡ weight_sum (with_first_weight w n) → (d : Draft) → IsDraft b d → (a : Bool)
      → ((m : Items) → weight_sum m ≡ v → CanCome (table_without i d.table) (AtBucket k) m → a ≡ not (is_too_heavy (table_without i d.table ++ rows (Some k) m))) → is_too_heavy (table_with_item d.pending i w d.table) ≡ not a
  fits_test w v weighs d at a test = heavy_at w d at a (test (with_first_weight w n) (sym weighs) (can_come w d at))

  -- the table with the item in the bucket is lawful, which the method that puts it there requires
  pub can_put : (w : ℕ) → (is_device_id i ≡ true → w ≤ HEAVIEST_DEVICE) → is_too_heavy (table_with_item b.pending i w (rows_of b.forest)) ≡ false → Lawful (table_without i (rows_of b.forest) ++ rows (Some k) (with_first_weight w n))
  can_put w small light =
      put_lawful (rows_of b.forest) i k w n took.own.stands.lawful (took.there (own_draft b) took.own) (root_at (own_draft b) took.own) took.other took.one (took.node (rows_of b.forest) took.own.stands) small
      (ap is_too_heavy (sym (put_table (own_draft b) i k w took.fills)) ∙ light)

  pub put_is_draft : (h : ForestData) (w : Option ℕ) (d : Draft) → IsDraft b d → Stands h (table_without i d.table ++ rows (Some k) (with_first_weight (weight_or_one w) n)) → (more : ℕ) → more ≡ adjustment d.table i w → IsDraft (record b { forest = h; adjusted = b.adjusted + more }) (with_next_item d i w)
  put_is_draft h w d at st more is = item_step b h d i k w n at took.fills (took.there d at) (took.free d at) took.other took.one (took.node d.table at.stands) st more is
