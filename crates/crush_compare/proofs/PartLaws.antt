-- Proves that the walk from an item downward visits this item and each item below it exactly once.
use Rattle.std.proofs.Common.{◌≡◌, ℕ, zero, suc, ◌+◌, ◌≤◌, ◌==◌, true, false, List, [], ◌∷◌, length, ap, subst, ◌∙◌, refl, sym, arith, ⊎_elim}
use Rattle.std.specs.Prelude.{Bool, Option, None, Some, flat_map, is_some, ◌||◌}
use Rattle.std.specs.List.{count_by, sum_by}
use Rattle.std.specs.Option.{option_map, option_map_or}
use Rattle.std.proofs.lemmas.Bool.{eqb-true}
use Rattle.std.proofs.lemmas.List.Sums.{sum_by-append, sum_by-cons}
use Rattle.crush_units.specs.declared.id.ItemId.{ItemId}
use Rattle.crush_units.specs.declared.id.ItemId.TheVariants.{Device, Bucket}
use Rattle.crush_units.specs.Id.{same_id}
use Rattle.crush_units.proofs.Ids.{same_id_tells}
use Rattle.crush_model.specs.Count.{one_if}
use Rattle.crush_model.specs.Lawful.{Lawful}
use Rattle.crush_model.specs.Table.{Row, above, climb, is_below, is_there, kids, row_of}
use Rattle.crush_model.proofs.Attached.{chain_length}
use Rattle.crush_model.proofs.Climbs.{climb_enough, one_if-is_below, sum_by-zero, times_in}
use Rattle.crush_model.proofs.KidSums.{climb_kids, over_kids, over_kids-kids, sum_by-agree}
use Rattle.crush_model.proofs.Moved.{row_id}
use Rattle.crush_model.proofs.Reorder.{sum_by-flat_map}
use Rattle.crush_nodes.specs.Views.{ViewData, row_view}
use Rattle.crush_items.specs.Tree.{WalkStepData, step_at, steps_at}
use Rattle.crush_compare.specs.Parts.{StepsArePart}

-- a walk upward visits no device
no_device : (d : ℕ) (xs : List ℕ) → times_in (Device d) xs ≡ 0
no_device d [] = refl
no_device d (x ∷ xs) = omega (arith, no_device d xs)

either_one : (p q : Bool) → (p ≡ true → q ≡ false) → one_if p + one_if q ≡ one_if (p || q)
either_one true q only = omega (arith, ap one_if (only refl))
either_one false q only = omega arith

module _ (t : List Row) (l : Lawful t) (j : ItemId) (there : is_there t j ≡ true) where
  abbrev is_it : WalkStepData → ℕ
  is_it s = one_if (same_id s.item.id j)

  abbrev count : List WalkStepData → ℕ
  count ss = sum_by is_it ss

  -- the first step of the walk from an item visits this item
  own_count : (depth : ℕ) (i : ItemId) → count (step_at t depth i) ≡ one_if (same_id i j)
  unfolding step_at
  own_count depth i = by_row (row_of t i) refl where
    by_row : (o : Option Row) → row_of t i ≡ o → count (option_map_or (λ (v : ViewData). record { depth = depth; item = v } ∷ []) (option_map (row_view t) o) []) ≡ one_if (same_id i j)
    by_row None is = ⊎_elim (λ p. absurd (let no : false ≡ true = sym (ap is_some is) ∙ ap (is_there t) p.1 ∙ there in cc)) (λ p. sym (ap one_if p.0)) (same_id_tells i j)
    by_row (Some r) is =
        let own : one_if (same_id r.id j) ≡ one_if (same_id i j) = ap (λ k. one_if (same_id k j)) (row_id i t r is) in
        omega (arith, own, sum_by-cons is_it (record { depth = depth; item = row_view t r }) [])

  -- the steps of a bucket are its own step and the steps of its items
  bucket_count : (n depth b : ℕ) (g : ItemId → ℕ) → ((c : ItemId) → count (steps_at t n (depth + 1) c) ≡ g c) → count (steps_at t (suc n) depth (Bucket b)) ≡ one_if (same_id (Bucket b) j) + over_kids t b g
  unfolding steps_at
  bucket_count n depth b g each =
      sum_by-append is_it (step_at t depth (Bucket b)) (flat_map (steps_at t n (depth + 1)) (kids t b))
      ∙ (λ k. own_count depth (Bucket b) k + (sum_by-flat_map is_it (steps_at t n (depth + 1)) (kids t b) ∙ sum_by-agree _ g each (kids t b) ∙ sym (over_kids-kids t b g)) k)

  device_steps : (n depth d : ℕ) → count (steps_at t n depth (Device d)) ≡ one_if (same_id (Device d) j)
  unfolding steps_at
  device_steps n depth d = own_count depth (Device d)

  no_steps : (depth b : ℕ) → count (steps_at t zero depth (Bucket b)) ≡ 0
  unfolding steps_at
  no_steps depth b = refl

-- how often a walk of n levels down from a bucket visits a device is how often a walk of n buckets up from the device visits this bucket
device_count : (t : List Row) (l : Lawful t) (e : ℕ) (there : is_there t (Device e) ≡ true) (n depth b : ℕ) → count_by (λ (s : WalkStepData). same_id s.item.id (Device e)) (steps_at t n depth (Bucket b)) ≡ times_in (Bucket b) (climb t n (Device e))
device_count t l e there zero depth b = no_steps t l (Device e) there depth b
device_count t l e there (suc n) depth b =
    bucket_count t l (Device e) there n depth b (λ k. one_if (same_id k (Device e)) + times_in k (climb t n (Device e))) (each (device_count t l e there n (depth + 1)))
    ∙ (let more = climb_kids t b l.ids n (Device e) in omega (arith, more)) where
      each : ((c : ℕ) → count_by (λ (s : WalkStepData). same_id s.item.id (Device e)) (steps_at t n (depth + 1) (Bucket c)) ≡ times_in (Bucket c) (climb t n (Device e)))
          → (c : ItemId) → count_by (λ (s : WalkStepData). same_id s.item.id (Device e)) (steps_at t n (depth + 1) c) ≡ one_if (same_id c (Device e)) + times_in c (climb t n (Device e))
      each again (Device d) = device_steps t l (Device e) there n (depth + 1) d ∙ (let none = no_device d (climb t n (Device e)) in omega (arith, none))
      each again (Bucket c) = omega (arith, again c)

-- the same for a bucket, whose own step counts as one level more
nested_count : (t : List Row) (l : Lawful t) (x : ℕ) (there : is_there t (Bucket x) ≡ true) (n depth b : ℕ)
    → count_by (λ (s : WalkStepData). same_id s.item.id (Bucket x)) (steps_at t (suc n) depth (Bucket b)) ≡ one_if (b == x) + times_in (Bucket b) (climb t n (Bucket x))
nested_count t l x there zero depth b = bucket_count t l (Bucket x) there zero depth b (λ k. 0) each ∙ ap (λ m. one_if (b == x) + m) (over_kids-kids t b (λ k. 0) ∙ sum_by-zero (λ k. 0) (λ k. refl) (kids t b)) where
  each : (c : ItemId) → count_by (λ (s : WalkStepData). same_id s.item.id (Bucket x)) (steps_at t zero (depth + 1) c) ≡ 0
  each (Device d) = device_steps t l (Bucket x) there zero (depth + 1) d
  each (Bucket c) = no_steps t l (Bucket x) there (depth + 1) c
nested_count t l x there (suc n) depth b =
    bucket_count t l (Bucket x) there (suc n) depth b (λ k. one_if (same_id k (Bucket x)) + times_in k (climb t n (Bucket x))) (each (nested_count t l x there n (depth + 1)))
    ∙ ap (λ m. one_if (b == x) + m) (climb_kids t b l.ids n (Bucket x)) where
      each : ((c : ℕ) → count_by (λ (s : WalkStepData). same_id s.item.id (Bucket x)) (steps_at t (suc n) (depth + 1) (Bucket c)) ≡ one_if (c == x) + times_in (Bucket c) (climb t n (Bucket x)))
          → (c : ItemId) → count_by (λ (s : WalkStepData). same_id s.item.id (Bucket x)) (steps_at t (suc n) (depth + 1) c) ≡ one_if (same_id c (Bucket x)) + times_in c (climb t n (Bucket x))
      each again (Device d) = device_steps t l (Bucket x) there (suc n) (depth + 1) d ∙ (let none = no_device d (climb t n (Bucket x)) in omega (arith, none))
      each again (Bucket c) = again c

-- THE STEPS OF AN ITEM are those of this item and of each item below it
pub steps_are_part : StepsArePart
steps_are_part t (Device d) j depth l there = device_steps t l j there (length t) depth d
steps_are_part t (Bucket b) (Device e) depth l there = device_count t l e there (length t) depth b ∙ sym (one_if-is_below t l b (Device e))
steps_are_part t (Bucket b) (Bucket x) depth l there = by_length (length t) refl where
  short : length (x ∷ above t (Bucket x)) ≤ length t
  short = chain_length t l [] (Some x) there

  not_itself : (b == x) ≡ true → is_below t b (Bucket x) ≡ false
  not_itself same = subst (λ c. is_below t c (Bucket x) ≡ false) (sym (eqb-true b x same)) (l.loops x)

  by_length : (n : ℕ) → length t ≡ n → count_by (λ (s : WalkStepData). same_id s.item.id (Bucket x)) (steps_at t (length t) depth (Bucket b)) ≡ one_if ((b == x) || is_below t b (Bucket x))
  by_length zero is = absurd (omega (arith, short, is))
  by_length (suc m) is =
      let long : above t (Bucket x) ≡ climb t (suc m) (Bucket x) = ap (λ n. climb t n (Bucket x)) is in
      let less : length (climb t (suc m) (Bucket x)) ≤ m = omega (arith, short, is, ap length long) in
      let same : climb t m (Bucket x) ≡ above t (Bucket x) = sym (climb_enough t m (suc m) (Bucket x) less (omega arith)) ∙ sym long in
      ap (λ n. count_by (λ (s : WalkStepData). same_id s.item.id (Bucket x)) (steps_at t n depth (Bucket b))) is ∙ nested_count t l x there m depth b
      ∙ ap (λ xs. one_if (b == x) + times_in (Bucket b) xs) same ∙ ap (λ m. one_if (b == x) + m) (sym (one_if-is_below t l b (Bucket x))) ∙ either_one (b == x) (is_below t b (Bucket x)) not_itself
