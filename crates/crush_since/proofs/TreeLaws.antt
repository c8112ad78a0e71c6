-- Proves that the texts over the steps of a tree are empty if and only if the texts over the rows of the table are empty.
use Rattle.std.proofs.Common.{◌≡◌, ℕ, zero, suc, ◌+◌, ◌<◌, ◌≤◌, Bool, true, false, List, [], ◌∷◌, ◌++◌, length, map, refl, sym, ap, subst, ◌∙◌, arith, append-nil, eq-eqb, ⊎_elim}
use Rattle.std.specs.Prelude.{flat_map, filter, IfSome, Option, None, Some, is_some, nat_le, if◌then◌else◌, option_and_then}
use Rattle.std.specs.Option.{option_map, option_map_or}
use Rattle.std.proofs.lemmas.List.Concat.{flat_map-append}
use Rattle.crush_units.specs.declared.id.ItemId.{ItemId}
use Rattle.crush_units.specs.declared.id.ItemId.TheVariants.{Device, Bucket}
use Rattle.crush_units.proofs.Ids.{same_id_tells}
use Rattle.crush_model.specs.Lawful.{HasParent, Lawful}
use Rattle.crush_model.specs.Table.{Row, row_of, is_there, then_up, climb, above, kids, is_parent, bucket_ids}
use Rattle.crush_model.proofs.Attached.{chain_length}
use Rattle.crush_model.proofs.Moved.{row_id}
use Rattle.crush_model.proofs.Renamed.{All-row}
use Rattle.crush_nodes.specs.Views.{ViewData, row_view}
use Rattle.crush_print.specs.MapText.{put_in, ascending, device_number, root_number, root_numbers}
use Rattle.crush_items.specs.Tree.{WalkStepData, step_at, steps_at, unplaced_number, unplaced_numbers, tree_rows}
use Rattle.crush_since.proofs.SinceItself.{nothing_of}

-- LISTS: if two joined lists are empty, each of them is empty
pub nil_left : {X : Type 0} (xs ys : List X) → xs ++ ys ≡ [] → xs ≡ []
nil_left [] ys h = refl
nil_left (x ∷ xs) ys h = absurd (let long : length (x ∷ (xs ++ ys)) ≡ 0 = ap length h in omega (arith, long))

pub nil_right : {X : Type 0} (xs ys : List X) → xs ++ ys ≡ [] → ys ≡ []
nil_right [] ys h = h
nil_right (x ∷ xs) ys h = absurd (let long : length (x ∷ (xs ++ ys)) ≡ 0 = ap length h in omega (arith, long))

pub not_none : {X : Type 0} (x : X) (xs : List X) → x ∷ xs ≡ [] → ⊥
not_none x xs h = let long : length (x ∷ xs) ≡ 0 = ap length h in omega (arith, long)

pub flat_twice : {X Y Z : Type 0} (g : Y → List Z) (h : X → List Y) (xs : List X) → flat_map g (flat_map h xs) ≡ flat_map (λ x. flat_map g (h x)) xs
flat_twice g h [] = refl
flat_twice g h (x ∷ xs) = flat_map-append g (h x) (flat_map h xs) ∙ ap (λ l. flat_map g (h x) ++ l) (flat_twice g h xs)

-- if the texts of a sorted list of numbers are empty, the texts of the list are empty
put_among : {Z : Type 0} (g : ℕ → List Z) (n : ℕ) (xs : List ℕ) → flat_map g (put_in n xs) ≡ [] → g n ++ flat_map g xs ≡ []
put_among g n [] e = e
put_among g n (x ∷ xs) e = at (nat_le n x) (put_among g n xs) e where
  at : (b : Bool) → (flat_map g (put_in n xs) ≡ [] → g n ++ flat_map g xs ≡ []) → flat_map g (if b then n ∷ (x ∷ xs) else x ∷ put_in n xs) ≡ [] → g n ++ (g x ++ flat_map g xs) ≡ []
  at true f e = e
  at false f e =
      let rest = f (nil_right (g x) (flat_map g (put_in n xs)) e) in
      (λ k. nil_left (g n) (flat_map g xs) rest k ++ (nil_left (g x) (flat_map g (put_in n xs)) e k ++ nil_right (g n) (flat_map g xs) rest k))

pub unsorted : {Z : Type 0} (g : ℕ → List Z) (xs : List ℕ) → flat_map g (ascending xs) ≡ [] → flat_map g xs ≡ []
unsorted g [] e = refl
unsorted g (x ∷ xs) e =
    let both = put_among g x (ascending xs) e in
    (λ k. nil_left (g x) (flat_map g (ascending xs)) both k ++ unsorted g xs (nil_right (g x) (flat_map g (ascending xs)) both) k)

pub some_is : {X : Type 0} (a b : X) → Some a ≡ Some b → a ≡ b
some_is a b same = cc

-- what holds for all rows holds for the row of each id
of_row : {Z : Type 0} (g : Row → List Z) (t : List Row) (i : ItemId) (r : Row) → row_of t i ≡ Some r → flat_map g t ≡ [] → g r ≡ []
of_row g [] i r found e = absurd cc
of_row g (x ∷ t) i r found e = ⊎_elim
    (λ q. subst (λ y. g y ≡ []) (some_is x r (sym (ap (λ b. if b then Some x else row_of t i) q.0) ∙ found)) (nil_left (g x) (flat_map g t) e))
    (λ q. of_row g t i r (sym (ap (λ b. if b then Some x else row_of t i) q.0) ∙ found) (nil_right (g x) (flat_map g t) e))
    (same_id_tells x.id i)

-- what holds for all items of a bucket holds for each of them
of_kid : {Z : Type 0} (g : ItemId → List Z) (t : List Row) (b : ℕ) (i : ItemId) (r : Row) → row_of t i ≡ Some r → is_parent b r.parent ≡ true → flat_map g (kids t b) ≡ [] → g i ≡ []
of_kid g t b i r found own e = ap g (sym (row_id i t r found)) ∙ here (is_parent b r.parent) own (of_row (λ (x : Row). if is_parent b x.parent then g x.id else []) t i r found (by_rows t ∙ e)) where
  by_test : (c : Bool) (x : Row) (xs : List Row) → flat_map g (map (λ (y : Row). y.id) (if c then x ∷ xs else xs)) ≡ (if c then g x.id else []) ++ flat_map g (map (λ (y : Row). y.id) xs)
  by_test true x xs = refl
  by_test false x xs = refl

  by_rows : (xs : List Row) → flat_map (λ (x : Row). if is_parent b x.parent then g x.id else []) xs ≡ flat_map g (kids xs b)
  by_rows [] = refl
  by_rows (x ∷ xs) = ap (λ l. (if is_parent b x.parent then g x.id else []) ++ l) (by_rows xs) ∙ sym (by_test (is_parent b x.parent) x (filter (λ (y : Row). is_parent b y.parent) xs))

  here : (c : Bool) → c ≡ true → (if c then g r.id else []) ≡ [] → g r.id ≡ []
  here true q h = h
  here false q h = absurd cc

-- if the list of each row is empty, the lists of the steps are empty
module _ {Z : Type 0} (t : List Row) (f : ViewData → List Z) (none : (i : ItemId) (r : Row) → row_of t i ≡ Some r → f (row_view t r) ≡ []) where
  at_none : (depth : ℕ) (i : ItemId) → flat_map (λ (s : WalkStepData). f s.item) (step_at t depth i) ≡ []
  unfolding step_at
  at_none depth i = by_row (row_of t i) refl where
    by_row : (o : Option Row) → row_of t i ≡ o → flat_map (λ (s : WalkStepData). f s.item) (option_map_or (λ (v : ViewData). record { depth = depth; item = v } ∷ []) (option_map (row_view t) o) []) ≡ []
    by_row None e = refl
    by_row (Some r) e = append-nil (f (row_view t r)) ∙ none i r e

  steps_none : (n depth : ℕ) (i : ItemId) → flat_map (λ (s : WalkStepData). f s.item) (steps_at t n depth i) ≡ []
  unfolding steps_at
  steps_none n depth (Device d) = at_none depth (Device d)
  steps_none zero depth (Bucket b) = refl
  steps_none (suc n) depth (Bucket b) =
      flat_map-append (λ (s : WalkStepData). f s.item) (step_at t depth (Bucket b)) (flat_map (steps_at t n (depth + 1)) (kids t b))
      ∙ (λ k. at_none depth (Bucket b) k ++ (flat_twice (λ (s : WalkStepData). f s.item) (steps_at t n (depth + 1)) (kids t b) ∙ nothing_of (λ i. flat_map (λ (s : WalkStepData). f s.item) (steps_at t n (depth + 1) i)) (λ i. steps_none n (depth + 1) i) (kids t b)) k)

  pub tree_none : flat_map (λ (s : WalkStepData). f s.item) (tree_rows t) ≡ []
  unfolding tree_rows
  tree_none =
      flat_map-append (λ (s : WalkStepData). f s.item) (flat_map (λ b. steps_at t (length t) 0 (Bucket b)) (root_numbers t)) (flat_map (λ d. step_at t 0 (Device d)) (unplaced_numbers t))
      ∙ (λ k. (flat_twice (λ (s : WalkStepData). f s.item) (λ b. steps_at t (length t) 0 (Bucket b)) (root_numbers t) ∙ nothing_of (λ b. flat_map (λ (s : WalkStepData). f s.item) (steps_at t (length t) 0 (Bucket b))) (λ b. steps_none (length t) 0 (Bucket b)) (root_numbers t)) k
      ++ (flat_twice (λ (s : WalkStepData). f s.item) (λ d. step_at t 0 (Device d)) (unplaced_numbers t) ∙ nothing_of (λ d. flat_map (λ (s : WalkStepData). f s.item) (step_at t 0 (Device d))) (λ d. at_none 0 (Device d)) (unplaced_numbers t)) k)

-- if the lists of the steps are empty, the list of each row is empty
module _ {Z : Type 0} (t : List Row) (l : Lawful t) (f : ViewData → List Z) (none : flat_map (λ (s : WalkStepData). f s.item) (tree_rows t) ≡ []) where
  -- the steps of an item, at most so many levels deep, have empty texts
  abbrev NoStep : ℕ → ItemId → Type 0
  NoStep n i = (depth : ℕ) × (flat_map (λ (s : WalkStepData). f s.item) (steps_at t n depth i) ≡ [])

  both : flat_map (λ (s : WalkStepData). f s.item) (flat_map (λ b. steps_at t (length t) 0 (Bucket b)) (root_numbers t)) ++ flat_map (λ (s : WalkStepData). f s.item) (flat_map (λ d. step_at t 0 (Device d)) (unplaced_numbers t)) ≡ []
  unfolding tree_rows
  both = sym (flat_map-append (λ (s : WalkStepData). f s.item) (flat_map (λ b. steps_at t (length t) 0 (Bucket b)) (root_numbers t)) (flat_map (λ d. step_at t 0 (Device d)) (unplaced_numbers t))) ∙ none

  of_root : (b : ℕ) (r : Row) → row_of t (Bucket b) ≡ Some r → r.parent ≡ None → flat_map (λ (s : WalkStepData). f s.item) (steps_at t (length t) 0 (Bucket b)) ≡ []
  unfolding root_numbers
  of_root b r found root =
      let g : ℕ → List Z = λ c. flat_map (λ (s : WalkStepData). f s.item) (steps_at t (length t) 0 (Bucket c)) in
      let all = unsorted g (flat_map root_number t) (sym (flat_twice (λ (s : WalkStepData). f s.item) (λ c. steps_at t (length t) 0 (Bucket c)) (root_numbers t)) ∙ nil_left _ _ both) in
      let own : root_number r ≡ b ∷ [] = (λ k. if is_some (root k) then [] else bucket_ids (row_id (Bucket b) t r found k)) in
      nil_left (g b) [] (sym (ap (flat_map g) own) ∙ of_row (λ (x : Row). flat_map g (root_number x)) t (Bucket b) r found (sym (flat_twice g root_number t) ∙ all))

  of_unplaced : (d : ℕ) (r : Row) → row_of t (Device d) ≡ Some r → r.parent ≡ None → flat_map (λ (s : WalkStepData). f s.item) (step_at t 0 (Device d)) ≡ []
  unfolding unplaced_numbers
  of_unplaced d r found root =
      let g : ℕ → List Z = λ c. flat_map (λ (s : WalkStepData). f s.item) (step_at t 0 (Device c)) in
      let all = unsorted g (flat_map unplaced_number t) (sym (flat_twice (λ (s : WalkStepData). f s.item) (λ c. step_at t 0 (Device c)) (unplaced_numbers t)) ∙ nil_right _ _ both) in
      let own : unplaced_number r ≡ d ∷ [] = (λ k. if is_some (root k) then [] else device_number (row_id (Device d) t r found k)) in
      nil_left (g d) [] (sym (ap (flat_map g) own) ∙ of_row (λ (x : Row). flat_map g (unplaced_number x)) t (Device d) r found (sym (flat_twice g unplaced_number t) ∙ all))

  -- then the text of the item's own step is empty, and so are the texts of the steps of its items
  own_step : (n depth b : ℕ) → flat_map (λ (s : WalkStepData). f s.item) (steps_at t (suc n) depth (Bucket b)) ≡ [] → flat_map (λ (s : WalkStepData). f s.item) (step_at t depth (Bucket b)) ≡ []
  unfolding steps_at
  own_step n depth b e = nil_left _ (flat_map (λ (s : WalkStepData). f s.item) (flat_map (steps_at t n (depth + 1)) (kids t b))) (sym (flat_map-append (λ (s : WalkStepData). f s.item) (step_at t depth (Bucket b)) (flat_map (steps_at t n (depth + 1)) (kids t b))) ∙ e)

  kid_step : (n depth b : ℕ) (i : ItemId) (r : Row) → row_of t i ≡ Some r → is_parent b r.parent ≡ true → flat_map (λ (s : WalkStepData). f s.item) (steps_at t (suc n) depth (Bucket b)) ≡ [] → flat_map (λ (s : WalkStepData). f s.item) (steps_at t n (depth + 1) i) ≡ []
  unfolding steps_at
  kid_step n depth b i r found own e =
      of_kid (λ j. flat_map (λ (s : WalkStepData). f s.item) (steps_at t n (depth + 1) j)) t b i r found own
      (sym (flat_twice (λ (s : WalkStepData). f s.item) (steps_at t n (depth + 1)) (kids t b))
      ∙ nil_right (flat_map (λ (s : WalkStepData). f s.item) (step_at t depth (Bucket b))) _ (sym (flat_map-append (λ (s : WalkStepData). f s.item) (step_at t depth (Bucket b)) (flat_map (steps_at t n (depth + 1)) (kids t b))) ∙ e))

  of_parent : (p : ℕ) (o : Option ℕ) → o ≡ Some p → is_parent p o ≡ true
  of_parent p o e = ap (is_parent p) e ∙ eq-eqb p p refl

  parent_row : (p : ℕ) → is_there t (Bucket p) ≡ true → (q : Row) × (row_of t (Bucket p) ≡ Some q)
  parent_row p there = by_row (row_of t (Bucket p)) refl there where
    by_row : (o : Option Row) → row_of t (Bucket p) ≡ o → is_some o ≡ true → (q : Row) × (row_of t (Bucket p) ≡ Some q)
    by_row None e h = absurd cc
    by_row (Some q) e h = (q, e)

  -- a walk from a root reaches each bucket, with enough levels left for the bucket's own steps
  comes_down : (m b : ℕ) (r : Row) → row_of t (Bucket b) ≡ Some r → length (climb t m (Bucket b)) < m → m ≤ length t → (k : ℕ) × (k + length (climb t m (Bucket b)) ≡ length t) × NoStep k (Bucket b)
  comes_down zero b r found short few = absurd (omega (arith, short))
  comes_down (suc m) b r found short few = by_parent (λ p q there less within. comes_down m p q there less within) r.parent refl (All-row (HasParent t) t l.parents (Bucket b) r found) where
    up : (o : Option ℕ) → r.parent ≡ o → climb t (suc m) (Bucket b) ≡ then_up o (λ p. climb t m (Bucket p))
    up o e = ap (λ z. then_up z (λ p. climb t m (Bucket p))) (ap (option_and_then (λ (x : Row). x.parent)) found ∙ e)

    below : (p n : ℕ) → r.parent ≡ Some p → n + length (climb t m (Bucket p)) ≡ length t → length (climb t m (Bucket p)) < m → NoStep n (Bucket p) → (k : ℕ) × (k + length (climb t (suc m) (Bucket b)) ≡ length t) × NoStep k (Bucket b)
    below p zero e sum less none_there = absurd (omega (arith, sum, less, few))
    below p (suc n) e sum less none_there =
        (n, omega (arith, sum, ap length (up (Some p) e)), (none_there.0 + 1, kid_step n none_there.0 p (Bucket b) r found (of_parent p r.parent e) none_there.1))

    by_parent : ((p : ℕ) (q : Row) → row_of t (Bucket p) ≡ Some q → length (climb t m (Bucket p)) < m → m ≤ length t → (k : ℕ) × (k + length (climb t m (Bucket p)) ≡ length t) × NoStep k (Bucket p))
        → (o : Option ℕ) → r.parent ≡ o → IfSome o (λ p. is_there t (Bucket p) ≡ true) → (k : ℕ) × (k + length (climb t (suc m) (Bucket b)) ≡ length t) × NoStep k (Bucket b)
    by_parent again None e there = (length t, omega (arith, ap length (up None e)), (0, of_root b r found e))
    by_parent again (Some p) e there =
        let q = parent_row p there in
        let less : length (climb t m (Bucket p)) < m = omega (arith, short, ap length (up (Some p) e)) in
        let found_there = again p q.0 q.1 less (omega (arith, few)) in
        below p found_there.0 e found_there.1 less found_there.2

  comes_to : (b : ℕ) (r : Row) → row_of t (Bucket b) ≡ Some r → (n : ℕ) × NoStep (suc n) (Bucket b)
  comes_to b r found = by_number came.0 came.1 came.2 where
    less : length (above t (Bucket b)) < length t
    less = omega (arith, chain_length t l [] (Some b) (ap is_some found))

    came : (k : ℕ) × (k + length (above t (Bucket b)) ≡ length t) × NoStep k (Bucket b)
    came = comes_down (length t) b r found less (omega arith)

    by_number : (k : ℕ) → k + length (above t (Bucket b)) ≡ length t → NoStep k (Bucket b) → (n : ℕ) × NoStep (suc n) (Bucket b)
    by_number zero sum h = absurd (omega (arith, sum, less))
    by_number (suc n) sum h = (n, h)

  row_none : (depth : ℕ) (i : ItemId) (r : Row) → row_of t i ≡ Some r → flat_map (λ (s : WalkStepData). f s.item) (step_at t depth i) ≡ [] → f (row_view t r) ≡ []
  unfolding step_at
  row_none depth i r found e =
      nil_left (f (row_view t r)) [] (sym (ap (λ o. flat_map (λ (s : WalkStepData). f s.item) (option_map_or (λ (v : ViewData). record { depth = depth; item = v } ∷ []) (option_map (row_view t) o) [])) found) ∙ e)

  device_none : (n depth d : ℕ) (r : Row) → row_of t (Device d) ≡ Some r → flat_map (λ (s : WalkStepData). f s.item) (steps_at t n depth (Device d)) ≡ [] → f (row_view t r) ≡ []
  unfolding steps_at
  device_none n depth d r found e = row_none depth (Device d) r found e

  pub rows_none : (i : ItemId) (r : Row) → row_of t i ≡ Some r → f (row_view t r) ≡ []
  rows_none (Bucket b) r found =
      let came = comes_to b r found in
      row_none came.1.0 (Bucket b) r found (own_step came.0 came.1.0 b came.1.1)
  rows_none (Device d) r found = by_parent r.parent refl (All-row (HasParent t) t l.parents (Device d) r found) where
    by_parent : (o : Option ℕ) → r.parent ≡ o → IfSome o (λ p. is_there t (Bucket p) ≡ true) → f (row_view t r) ≡ []
    by_parent None e there = row_none 0 (Device d) r found (of_unplaced d r found e)
    by_parent (Some p) e there =
        let q = parent_row p there in
        let came = comes_to p q.0 q.1 in
        device_none came.0 (came.1.0 + 1) d r found (kid_step came.0 came.1.0 p (Device d) r found (of_parent p r.parent e) came.1.1)
