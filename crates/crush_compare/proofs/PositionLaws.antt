-- Proves that the positions of a run are those of the run's first item and of all items below it.
use Rattle.std.proofs.Common.{◌≡◌, ℕ, zero, suc, ◌+◌, ◌-◌, ◌≤◌, true, false, List, [], ◌∷◌, length, take, drop, ap, subst, ◌∙◌, refl, sym, arith}
use Rattle.std.specs.Prelude.{All, Bool, Option, None, Some, is_some, nat_le, nat_lt, ◌&&◌}
use Rattle.std.specs.List.{slice_get, sum_by}
use Rattle.std.specs.Option.{option_map}
use Rattle.std.proofs.lemmas.Bool.Decides.{nat_tests}
use Rattle.std.proofs.lemmas.List.Elements.{All-head, All-tail}
use Rattle.std.proofs.lemmas.List.Sums.{sum_by-cons}
use Rattle.std.proofs.lemmas.Option.{slice_get-map}
use Rattle.crush_units.specs.Id.{same_id}
use Rattle.crush_units.proofs.Ids.{same_id_refl}
use Rattle.crush_model.specs.Count.{one_if}
use Rattle.crush_model.specs.Table.{Row, is_there, row_of}
use Rattle.crush_model.proofs.Reorder.{sum_by-map}
use Rattle.crush_nodes.specs.Views.{ViewData}
use Rattle.crush_items.specs.Entries.{EntryData, entry_of, row_entry}
use Rattle.crush_items.specs.Items.{entry_id}
use Rattle.crush_items.specs.Runs.{first_with_below}
use Rattle.crush_items.specs.Tree.{WalkStepData, steps_at, tree_rows}
use Rattle.crush_compare.specs.Named.{is_at}
use Rattle.crush_compare.specs.Parts.{RunIsPart}
use Rattle.crush_compare.proofs.PartLaws.{steps_are_part}

-- COUNTED ONCE: if exactly one element of a list passes a test, a slice has this element if and only if the slice has its position
module _ {X : Type 0} (q : X → Bool) where
  abbrev count : List X → ℕ
  count xs = sum_by (λ x. one_if (q x)) xs

  none_in : (a m : ℕ) (xs : List X) → count xs ≡ 0 → count (take m (drop a xs)) ≡ 0
  none_in zero zero xs none = refl
  none_in zero (suc m) [] none = refl
  none_in zero (suc m) (x ∷ xs) none =
      let more = sum_by-cons (λ y. one_if (q y)) x xs in
      omega (arith, none, more, none_in zero m xs (omega (arith, none, more)), sum_by-cons (λ y. one_if (q y)) x (take m xs))
  none_in (suc a) zero [] none = refl
  none_in (suc a) (suc m) [] none = refl
  none_in (suc a) m (x ∷ xs) none = none_in a m xs (omega (arith, none, sum_by-cons (λ y. one_if (q y)) x xs))

  counts : (xs : List X) (k : ℕ) (x : X) → slice_get xs k ≡ Some x → q x ≡ true → 1 ≤ count xs
  counts [] k x at is = absurd cc
  counts (y ∷ xs) zero x at is =
      let same : y ≡ x = cc in
      let one : one_if (q y) ≡ 1 = ap one_if (ap q same ∙ is) in
      omega (arith, one, sum_by-cons (λ z. one_if (q z)) y xs)
  counts (y ∷ xs) (suc k) x at is = omega (arith, counts xs k x at is, sum_by-cons (λ z. one_if (q z)) y xs)

  in_slice : (xs : List X) (a m k : ℕ) (x : X) → slice_get xs k ≡ Some x → q x ≡ true → count xs ≤ 1 → count (take m (drop a xs)) ≡ one_if (nat_le a k && nat_lt k (a + m))
  in_slice [] a m k x at is once = absurd cc
  in_slice (y ∷ xs) zero zero k x at is once = ap one_if (let no : false ≡ (nat_le 0 k && nat_lt k (0 + 0)) = grind (arith, nat_tests) in no)
  in_slice (y ∷ xs) zero (suc m) zero x at is once =
      let same : y ≡ x = cc in
      let one : one_if (q y) ≡ 1 = ap one_if (ap q same ∙ is) in
      let more = sum_by-cons (λ z. one_if (q z)) y xs in
      let rest = none_in zero m xs (omega (arith, one, once, more)) in
      let all : count (take (suc m) (y ∷ xs)) ≡ 1 = omega (arith, one, rest, sum_by-cons (λ z. one_if (q z)) y (take m xs)) in
      all ∙ ap one_if (let yes : true ≡ (nat_le 0 0 && nat_lt 0 (0 + suc m)) = grind (arith, nat_tests) in yes)
  in_slice (y ∷ xs) zero (suc m) (suc k) x at is once =
      let more = sum_by-cons (λ z. one_if (q z)) y xs in
      let some = counts xs k x at is in
      let rest = in_slice xs zero m k x at is (omega (arith, once, more)) in
      let all : count (take (suc m) (y ∷ xs)) ≡ one_if (nat_le 0 k && nat_lt k (0 + m)) = omega (arith, rest, some, once, more, sum_by-cons (λ z. one_if (q z)) y (take m xs)) in
      all ∙ ap one_if (let one : (nat_le 0 k && nat_lt k (0 + m)) ≡ (nat_le 0 (suc k) && nat_lt (suc k) (0 + suc m)) = grind (arith, nat_tests) in one)
  in_slice (y ∷ xs) (suc a) m zero x at is once =
      let same : y ≡ x = cc in
      let one : one_if (q y) ≡ 1 = ap one_if (ap q same ∙ is) in
      none_in a m xs (omega (arith, one, once, sum_by-cons (λ z. one_if (q z)) y xs)) ∙ ap one_if (let no : false ≡ (nat_le (suc a) 0 && nat_lt 0 (suc a + m)) = grind (arith, nat_tests) in no)
  in_slice (y ∷ xs) (suc a) m (suc k) x at is once =
      in_slice xs a m k x at is (omega (arith, once, sum_by-cons (λ z. one_if (q z)) y xs))
      ∙ ap one_if (let one : (nat_le a k && nat_lt k (a + m)) ≡ (nat_le (suc a) (suc k) && nat_lt (suc k) (suc a + m)) = grind (arith, nat_tests) in one)

up_to : (a k to : ℕ) → (nat_le a k && nat_lt k (a + (to - a))) ≡ (nat_le a k && nat_lt k to)
up_to a k to = grind (arith, nat_tests)

same_test : (p q : Bool) → one_if p ≡ one_if q → p ≡ q
same_test true true is = refl
same_test false false is = refl
same_test true false is = absurd (omega (arith, is))
same_test false true is = absurd (omega (arith, is))

first_of : (t : List Row) (ss : List WalkStepData) (k : ℕ) (s : WalkStepData) → slice_get ss k ≡ Some s → first_with_below t (drop k ss) ≡ steps_at t (length t) s.depth s.item.id
first_of t [] k s at = absurd cc
first_of t (x ∷ ss) zero s at = let same : x ≡ s = cc in ap (λ (y : WalkStepData). steps_at t (length t) y.depth y.item.id) same
first_of t (x ∷ ss) (suc k) s at = first_of t ss k s at

-- at the position of an entry, the list of steps has the step of the entry's item
step_there : (o : Option WalkStepData) (v : ViewData) → option_map (λ (s : WalkStepData). s.item) o ≡ Some v → (s : WalkStepData) × (o ≡ Some s) × (s.item ≡ v)
step_there None v is = absurd cc
step_there (Some s) v is = (s, refl, cc)

-- the item of a table's entry is an item that the table has
row_there : (t : List Row) (e : EntryData) (o : Option Row) → option_map (row_entry t (entry_id e)) o ≡ Some e → is_some o ≡ true
row_there t e None is = absurd cc
row_there t e (Some r) is = refl

pub told_there : (t : List Row) (es : List EntryData) (k : ℕ) (e : EntryData) → All (λ x. entry_of t (entry_id x) ≡ Some x) es → slice_get es k ≡ Some e → is_there t (entry_id e) ≡ true
told_there t [] k e told at = absurd cc
told_there t (x ∷ es) zero e told at = let same : x ≡ e = cc in row_there t e (row_of t (entry_id e)) (subst (λ y. entry_of t (entry_id y) ≡ Some y) same (All-head (λ y. entry_of t (entry_id y) ≡ Some y) x es told))
told_there t (x ∷ es) (suc k) e told at = told_there t es k e (All-tail (λ y. entry_of t (entry_id y) ≡ Some y) x es told) at

pub run_is_part : RunIsPart
run_is_part t es from to k top e lawful has tree at_top at_e run =
    let ss : List WalkStepData = tree_rows t in
    let view : EntryData → ViewData = λ x. x.item.view in
    let q : WalkStepData → Bool = λ s. same_id s.item.id (entry_id e) in
    let step : (i : ℕ) (x : EntryData) → slice_get es i ≡ Some x → (s : WalkStepData) × (slice_get ss i ≡ Some s) × (s.item ≡ x.item.view) = λ i x at.
    step_there (slice_get ss i) x.item.view (sym (slice_get-map (λ (s : WalkStepData). s.item) ss i) ∙ ap (λ l. slice_get l i) (sym tree) ∙ slice_get-map view es i ∙ ap (option_map view) at) in
    let first = step from top at_top in
    let own = step k e at_e in
    let once : count q ss ≤ 1 =
    omega (
      arith,
      lawful.ids (entry_id e),
      has.ids (λ i. one_if (same_id i (entry_id e))),
      sum_by-map (λ (v : ViewData). one_if (same_id v.id (entry_id e))) view es,
      sum_by-map (λ (v : ViewData). one_if (same_id v.id (entry_id e))) (λ (s : WalkStepData). s.item) ss,
      ap (sum_by (λ (v : ViewData). one_if (same_id v.id (entry_id e)))) tree,
    ) in
    let passes : q own.0 ≡ true = ap (λ (v : ViewData). same_id v.id (entry_id e)) own.2 ∙ same_id_refl (entry_id e) in
    let there : is_there t (entry_id e) ≡ true = told_there t es k e has.told at_e in
    let part : count q (take (to - from) (drop from ss)) ≡ one_if (is_at t (entry_id top) (entry_id e)) =
    ap (count q) (run ∙ first_of t ss from first.0 first.1) ∙ steps_are_part t first.0.item.id (entry_id e) first.0.depth lawful there ∙ ap (λ (v : ViewData). one_if (is_at t v.id (entry_id e))) first.2 in
    sym (up_to from k to) ∙ same_test _ _ (sym (in_slice q ss from (to - from) k own.0 own.1 passes once) ∙ part)
