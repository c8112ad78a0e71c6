-- Lemmas about the walk through all items below a bucket.
use Rattle.std.proofs.Common.{◌≡◌, ℕ, ◌+◌, ◌<◌, Bool, true, List, [], ◌∷◌, ◌++◌, inl, inr, length, map, ap, sym, subst, ◌∙◌, refl, arith}
use Rattle.std.specs.Prelude.{Option, None, Some, flat_map, nat_lt}
use Rattle.std.specs.List.{list_all, sum_by}
use Rattle.std.proofs.lemmas.Bool.Decides.{nat_tests}
use Rattle.std.proofs.lemmas.Bool.{and_parts}
use Rattle.std.proofs.lemmas.List.Sums.{sum_by-append, sum_by-cons}
use Rattle.crush_units.specs.declared.id.ItemId.{ItemId}
use Rattle.crush_units.specs.Id.{same_id}
use Rattle.crush_units.proofs.Ids.{same_id_tells}
use Rattle.crush_model.specs.Count.{one_if}
use Rattle.crush_model.specs.Forest.{ForestData, all_items}
use Rattle.crush_model.specs.Items.{Items, none, device, bucket}
use Rattle.crush_model.specs.Stands.{Stands}
use Rattle.crush_model.specs.Table.{Row, is_below, kids}
use Rattle.crush_model.proofs.Reorder.{reordered-length}
use Rattle.crush_nodes.specs.Ops.{count_of_id}
use Rattle.crush_nodes.specs.Search.{kids_in}
use Rattle.crush_nodes.specs.Views.{device_view, bucket_view}
use Rattle.crush_tree.proofs.ReadLemmas.Below.{ids_below, contains-below}
use Rattle.crush_tree.proofs.ReadLemmas.Items.{kids_in-kids}
use Rattle.crush_items.specs.Tree.{WalkStepData, steps_at, steps_of}
use Rattle.crush_print.specs.WalkStep.{walk_step_data}
use Rattle.crush_print.specs.declared.steps.WalkStep.{WalkStep}
use Rattle.crush_print.proofs.BelowLaws.{kids_no_more, told_kids}
use Rattle.crush_print.proofs.Told.{size_le_rows, stands_told}
use Rattle.crush_print.proofs.WalkLaws.{steps_told}

-- 1 if a step is the step of the item i, and otherwise 0
abbrev step_of : ItemId → WalkStepData → ℕ
step_of i s = one_if (same_id s.item.id i)

-- among the steps of some items and of all items below them, an id occurs as often as among these items
steps_count : (i : ItemId) (depth : ℕ) (p : Option ℕ) (n : Items) → sum_by (step_of i) (steps_of depth p n) ≡ count_of_id i n
steps_count i depth p none = refl
steps_count i depth p (device d rest) = omega (arith, sum_by-cons (step_of i) (record { depth = depth; item = device_view p d }) (steps_of depth p rest), steps_count i depth p rest)
steps_count i depth p (bucket h w m k rest) =
    omega (
      arith,
      sum_by-cons (step_of i) (record { depth = depth; item = bucket_view p h w }) (steps_of (depth + 1) (Some h.id) k ++ steps_of depth p rest),
      sum_by-append (step_of i) (steps_of (depth + 1) (Some h.id) k) (steps_of depth p rest),
      steps_count i (depth + 1) (Some h.id) k,
      steps_count i depth p rest,
    )

some_among : (n : ℕ) → nat_lt 0 n ≡ true → 0 < n
some_among n e = grind (arith, nat_tests)

-- the walk through the items below a bucket has a step for each item that is below the bucket
has_step : (f : ForestData) (t : List Row) (b : ℕ) (i : ItemId) → Stands f t → is_below t b i ≡ true → 0 < sum_by (step_of i) (flat_map (steps_at t (length t) 0) (kids t b))
has_step f t b i stands so = by (kids_in b (all_items f)) refl (some_among _ (sym (contains-below f t b i stands) ∙ so)) where
  by : (o : Option Items) → kids_in b (all_items f) ≡ o → 0 < ids_below i o → 0 < sum_by (step_of i) (flat_map (steps_at t (length t) 0) (kids t b))
  by None is some = absurd (omega (arith, some))
  by (Some k) is some =
      let le = kids_no_more b (all_items f) k is in
      let told = steps_told t (length t) 0 (Some b) k (omega (arith, le, size_le_rows None (all_items f), reordered-length stands.same.rows)) (told_kids t None (all_items f) k b (stands_told f t stands) is) in
      let steps : steps_of 0 (Some b) k ≡ flat_map (steps_at t (length t) 0) (kids t b) = sym told ∙ ap (flat_map (steps_at t (length t) 0)) (kids_in-kids f t b k stands is) in
      subst (λ n. 0 < n) (sym (steps_count i 0 (Some b) k) ∙ ap (sum_by (step_of i)) steps) some

-- if the items of all steps pass a test, each item that has a step passes it
passes_among : {A : _} (test : ItemId → Bool) (i : ItemId) (ss : List (WalkStep A)) → list_all (λ s. test (walk_step_data s).item.id) ss ≡ true → 0 < sum_by (step_of i) (map walk_step_data ss) → test i ≡ true
passes_among test i [] all some = absurd (omega (arith, some))
passes_among test i (s ∷ ss) all some =
    let both = and_parts _ _ all in
    elim (same_id_tells (walk_step_data s).item.id i) [
      | inl t ↦ subst (λ x. test x ≡ true) t.1 both.0
      | inr f ↦ let none : one_if (same_id (walk_step_data s).item.id i) ≡ 0 = ap one_if f.0 in passes_among test i ss both.1 (omega (arith, some, none, sum_by-cons (step_of i) (walk_step_data s) (map walk_step_data ss)))
    ]

-- if the items of all steps of the walk below a bucket pass a test, then each item below the bucket passes the test
pub all_below_pass : {A : _} (test : ItemId → Bool) (f : ForestData) (t : List Row) (b : ℕ) (ss : List (WalkStep A)) → Stands f t → map walk_step_data ss ≡ flat_map (steps_at t (length t) 0) (kids t b)
    → list_all (λ s. test (walk_step_data s).item.id) ss ≡ true → (i : ItemId) → is_below t b i ≡ true → test i ≡ true
all_below_pass test f t b ss stands are all i so = passes_among test i ss all (subst (λ l. 0 < sum_by (step_of i) l) (sym are) (has_step f t b i stands so))
