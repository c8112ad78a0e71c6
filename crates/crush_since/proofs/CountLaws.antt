-- Lemmas about the counts of pairs: how they grow by one pair, and that they are counts of the steps of both trees.
use Rattle.std.proofs.Common.{◌≡◌, ℕ, ◌+◌, ◌<◌, Bool, true, false, List, length, get_or, map, take, ap, sym, ◌∙◌, arith, cond, refl}
use Rattle.std.specs.Prelude.{Option, None, Some, ◌&&◌}
use Rattle.std.specs.List.{count_by}
use Rattle.std.proofs.lemmas.List.{get_or_default}
use Rattle.crush_model.specs.Count.{one_if}
use Rattle.crush_model.specs.Table.{Row}
use Rattle.crush_model.proofs.Climbs.{sum_by-zero}
use Rattle.crush_model.proofs.KidSums.{sum_by-agree}
use Rattle.crush_model.proofs.Reorder.{sum_by-map}
use Rattle.crush_items.specs.ItemData.{ItemData}
use Rattle.crush_items.specs.Tree.{WalkStepData, tree_rows}
use Rattle.crush_compare.specs.NamedPairs.{PairData, is_gone, pairs, step_item}
use Rattle.crush_compare.specs.declared.identity.Devices.TheVariants.{ByName}
use Rattle.crush_since.specs.Tallies.{is_made, is_removed, is_reweighed, is_reclassed}
use Rattle.crush_since.specs.declared.since.tally.Tally.{Tally}
use Rattle.crush_since.specs.CountedByName.{both_meet, is_gone_by_name, is_moved_by_name, pair_meets, pairs_tally, tally_by_name, tally_plus}
use Rattle.crush_since.proofs.NamedPairs.{count_pairs, of_new_step, of_old_step}
use Rattle.crush_since.proofs.TallyLaws.{AtMost, count_more, one_at_most}

-- counting the elements that meet a test is the same for a list and for the list of what its elements are seen as
pub counted_seen : {X Y : Type 0} (p : Y → Bool) (see : X → Y) (xs : List X) (ys : List Y) → map see xs ≡ ys → count_by (λ x. p (see x)) xs ≡ count_by p ys
counted_seen p see xs ys is = sym (sum_by-map (λ y. cond (p y) 1 0) see xs) ∙ ap (count_by p) is

pub tally_more : {X : Type 0} (see : X → PairData) (ps : List X) (i : ℕ) (x : X) (n m : Tally) (before after : Option ItemData) → i < length ps → x ≡ get_or ps i x → n ≡ pairs_tally see (take i ps) → m ≡ tally_plus n before after
    → before ≡ (see x).before → after ≡ (see x).after → m ≡ pairs_tally see (take (i + 1) ps)
tally_more see ps i x n m before after lt is so_far with_it is_before is_after =
    with_it ∙ (λ k. tally_plus (so_far k) (is_before k) (is_after k)) ∙ (λ k. record {
      made = sym (count_more (λ p. pair_meets is_made (see p)) ps i x lt is) k;
      removed = sym (count_more (λ p. pair_meets is_removed (see p)) ps i x lt is) k;
      renamed = 0;
      moved = sym (count_more (λ p. pair_meets is_moved_by_name (see p)) ps i x lt is) k;
      reweighed = sym (count_more (λ p. pair_meets is_reweighed (see p)) ps i x lt is) k;
      reclassed = sym (count_more (λ p. pair_meets is_reclassed (see p)) ps i x lt is) k;
    })

-- the same for the element at a position, whatever default value is used
pub tally_at : {X : Type 0} (see : X → PairData) (ps : List X) (i : ℕ) (d : X) (n m : Tally) → i < length ps → n ≡ pairs_tally see (take i ps) → m ≡ tally_plus n (see (get_or ps i d)).before (see (get_or ps i d)).after → m ≡ pairs_tally see (take (i + 1) ps)
tally_at see ps i d n m lt so_far with_it = tally_more see ps i (get_or ps i d) n m (see (get_or ps i d)).before (see (get_or ps i d)).after lt (get_or_default ps i d (get_or ps i d) lt) so_far with_it refl refl

pub count_at : {X : Type 0} (p : X → Bool) (xs : List X) (i : ℕ) (d : X) (n m : ℕ) → i < length xs → n ≡ count_by p (take i xs) → m ≡ n + one_if (p (get_or xs i d)) → m ≡ count_by p (take (i + 1) xs)
count_at p xs i d n m lt so_far is = is ∙ ap (λ k. k + one_if (p (get_or xs i d))) so_far ∙ sym (count_more p xs i (get_or xs i d) lt (get_or_default xs i d (get_or xs i d) lt))

pub at_most_plus : (k : ℕ) (n m : Tally) (before after : Option ItemData) → AtMost k n → m ≡ tally_plus n before after → AtMost (k + 1) m
at_most_plus k n m before after most is = record {
  made = let le = most.made in omega (arith, le, one_at_most (is_made before after), ap (λ (x : Tally). x.made) is);
  removed = let le = most.removed in omega (arith, le, one_at_most (is_removed before after), ap (λ (x : Tally). x.removed) is);
  renamed = let le = most.renamed in omega (arith, le, ap (λ (x : Tally). x.renamed) is);
  moved = let le = most.moved in omega (arith, le, one_at_most (is_moved_by_name before after), ap (λ (x : Tally). x.moved) is);
  reweighed = let le = most.reweighed in omega (arith, le, one_at_most (is_reweighed before after), ap (λ (x : Tally). x.reweighed) is);
  reclassed = let le = most.reclassed in omega (arith, le, one_at_most (is_reclassed before after), ap (λ (x : Tally). x.reclassed) is);
}

and_true : (b : Bool) → one_if (b && true) ≡ one_if b
and_true true = refl
and_true false = refl

-- THE COUNTS of all pairs are the counts of the steps of both trees
module _ (t u : List Row) where
  -- a test that is false for each item that only the old table has
  meeting : (test : Option ItemData → Option ItemData → Bool) → ((x : ItemData) → test (Some x) None ≡ false) → count_by (pair_meets test) (pairs ByName None t u) ≡ count_by (both_meet test t u) (tree_rows u)
  meeting test none =
      let all = count_pairs (pair_meets test) ByName None t u in
      let news = sum_by-agree (λ (s : WalkStepData). one_if (of_new_step (pair_meets test) ByName None t u s)) (λ s. one_if (both_meet test t u s)) (λ s. and_true (both_meet test t u s)) (tree_rows u) in
      let olds = sum_by-zero (λ (s : WalkStepData). one_if (of_old_step (pair_meets test) ByName None t u s)) (λ s. ap (λ b. one_if (b && is_gone ByName None t u (step_item t s))) (none (step_item t s))) (tree_rows t) in
      omega (arith, all, news, olds)

  removed : count_by (pair_meets is_removed) (pairs ByName None t u) ≡ count_by (is_gone_by_name t u) (tree_rows t)
  removed =
      let all = count_pairs (pair_meets is_removed) ByName None t u in
      let news = sum_by-zero (λ (s : WalkStepData). one_if (of_new_step (pair_meets is_removed) ByName None t u s)) (λ s. refl) (tree_rows u) in
      let olds = sum_by-agree (λ (s : WalkStepData). one_if (of_old_step (pair_meets is_removed) ByName None t u s)) (λ s. one_if (is_gone_by_name t u s)) (λ s. refl) (tree_rows t) in
      omega (arith, all, news, olds)

  pub tally_of_pairs : {X : Type 0} (see : X → PairData) (ps : List X) → map see ps ≡ pairs ByName None t u → pairs_tally see ps ≡ tally_by_name t u
  tally_of_pairs see ps is = λ k. record {
    made = (counted_seen (pair_meets is_made) see ps _ is ∙ meeting is_made (λ x. refl)) k;
    removed = (counted_seen (pair_meets is_removed) see ps _ is ∙ removed) k;
    renamed = 0;
    moved = (counted_seen (pair_meets is_moved_by_name) see ps _ is ∙ meeting is_moved_by_name (λ x. refl)) k;
    reweighed = (counted_seen (pair_meets is_reweighed) see ps _ is ∙ meeting is_reweighed (λ x. refl)) k;
    reclassed = (counted_seen (pair_meets is_reclassed) see ps _ is ∙ meeting is_reclassed (λ x. refl)) k;
  }
