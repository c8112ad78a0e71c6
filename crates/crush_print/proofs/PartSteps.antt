-- A part of a table (`part_of`) after one more item is added, or after one more item is placed.
use Rattle.std.proofs.Common.{◌≡◌, ℕ, Bool, true, false, List, [], ◌∷◌, ◌++◌, Option, Some, None, refl, sym, ap, subst, ◌∙◌}
use Rattle.std.proofs.lemmas.List.Elements.{All-head, All-tail, All-weaker}
use Rattle.std.specs.Prelude.{All, map, filter, not, ◌||◌, if◌then◌else◌}
use Rattle.std.specs.Option.{option_map}
use Rattle.crush_units.specs.declared.id.ItemId.{ItemId}
use Rattle.crush_units.specs.declared.id.ItemId.TheVariants.{Bucket}
use Rattle.crush_units.specs.Id.{same_id}
use Rattle.crush_units.proofs.Ids.{same_id_refl, same_id_equal}
use Rattle.crush_model.specs.Reordered.{IsReordered}
use Rattle.crush_model.specs.Columns.{without_row}
use Rattle.crush_model.specs.Lawful.{Lawful}
use Rattle.crush_model.specs.Table.{Row, row_of, parent_of, is_parent, kids}
use Rattle.crush_model.proofs.Moved.{last_row, row_id}
use Rattle.crush_model.proofs.Changes.{kids-append, kids-filter}
use Rattle.crush_model.proofs.Relocated.{All-kids}
use Rattle.crush_print.proofs.PartTables.{bare, shown, shown-id, part_of, Lawful-part, row_of-part}

-- applying one filter after another is applying one filter
cons_if : {X : Type 0} (p s : X → Bool) (b : Bool) (x : X) (xs ys : List X) → (if b then p x else false) ≡ s x → filter p xs ≡ ys → filter p (if b then x ∷ xs else xs) ≡ (if s x then x ∷ ys else ys)
cons_if p s true x xs ys e h = λ k. if e k then x ∷ h k else h k
cons_if p s false x xs ys e h = λ k. if e k then x ∷ h k else h k

filter_fused : {X : Type 0} (p q s : X → Bool) → ((x : X) → (if q x then p x else false) ≡ s x) → (xs : List X) → filter p (filter q xs) ≡ filter s xs
filter_fused p q s h [] = refl
filter_fused p q s h (x ∷ xs) = cons_if p s (q x) x (filter q xs) (filter s xs) (h x) (filter_fused p q s h xs)

-- two filtered lists are equal if they are equal in the elements that pass
same_if : {X : Type 0} (b c : Bool) (x y : X) (xs ys : List X) → b ≡ c → (c ≡ true → x ≡ y) → xs ≡ ys → (if b then x ∷ xs else xs) ≡ (if c then y ∷ ys else ys)
same_if b true x y xs ys e h r = λ k. if e k then h refl k ∷ r k else r k
same_if b false x y xs ys e h r = (λ k. if e k then x ∷ xs else xs) ∙ r

filter_alike : {X Y : Type 0} (s : Y → Bool) (f g : X → Y) → ((x : X) → s (f x) ≡ s (g x)) → ((x : X) → s (g x) ≡ true → f x ≡ g x) → (xs : List X) → filter s (map f xs) ≡ filter s (map g xs)
filter_alike s f g h e [] = refl
filter_alike s f g h e (x ∷ xs) = same_if (s (f x)) (s (g x)) (f x) (g x) (filter s (map f xs)) (filter s (map g xs)) (h x) (e x) (filter_alike s f g h e xs)

-- if all elements pass a filter, then the list is unchanged
filter_all : {X : Type 0} (p : X → Bool) (xs : List X) → All (λ x. p x ≡ true) xs → filter p xs ≡ xs
filter_all p [] h = refl
filter_all p (x ∷ xs) h = (λ k. if All-head (λ y. p y ≡ true) x xs h k then x ∷ filter p xs else filter p xs) ∙ ap (λ l. x ∷ l) (filter_all p xs (All-tail (λ y. p y ≡ true) x xs h))

-- the property q, extended to the item i
abbrev pub with_one : (ItemId → Bool) → ItemId → ItemId → Bool
with_one q i j = q j || same_id j i

or_true : (b : Bool) → (b || true) ≡ true
or_true true = refl
or_true false = refl

or_false : (b : Bool) → (b || false) ≡ b
or_false true = refl
or_false false = refl

pub with_one-it : (q : ItemId → Bool) (i : ItemId) → with_one q i i ≡ true
with_one-it q i = ap (λ b. q i || b) (same_id_refl i) ∙ or_true (q i)

pub with_one-other : (q : ItemId → Bool) (i j : ItemId) → same_id j i ≡ false → with_one q i j ≡ q j
with_one-other q i j h = ap (λ b. q j || b) h ∙ or_false (q j)

new_stays : (q : ItemId → Bool) (i : ItemId) → q i ≡ false → (j : ItemId) → (if with_one q i j then not (same_id j i) else false) ≡ q j
new_stays q i h j = by_id (same_id j i) refl
  where
    if_self : (b : Bool) → (if b then true else false) ≡ b
    if_self true = refl
    if_self false = refl

    if_none : (b : Bool) → (if b then false else false) ≡ false
    if_none true = refl
    if_none false = refl

    by_id : (b : Bool) → same_id j i ≡ b → (if (q j || b) then not b else false) ≡ q j
    by_id true e = if_none (q j || true) ∙ sym h ∙ ap q (sym (same_id_equal j i e))
    by_id false e = if_self (q j || false) ∙ or_false (q j)

-- the row of an item that is placed is the row of the table t
shown_by : (b : Bool) (r : Row) → b ≡ true → (if b then r else bare r) ≡ r
shown_by true r e = refl
shown_by false r e = absurd (let no : false ≡ true = e in cc)

bare_by : (b : Bool) (r : Row) → b ≡ false → (if b then r else bare r) ≡ bare r
bare_by false r e = refl
bare_by true r e = absurd (let no : true ≡ false = e in cc)

found_by : (b : Bool) (o : Option Row) (r x : Row) (f : Row → Row) → b ≡ true → o ≡ Some r → f r ≡ x → (if b then option_map f o else None) ≡ Some x
found_by b o r x f e h k = (λ j. if e j then option_map f (h j) else None) ∙ ap Some k

module _ (t : List Row) (l : Lawful t) where
  -- if an item is placed in the part, then its bucket is in the part, too
  abbrev pub IsClosed : (ItemId → Bool) → (ItemId → Bool) → Type 0
  IsClosed q P = (i : ItemId) (p : ℕ) → q i ≡ true → P i ≡ true → parent_of t i ≡ Some p → q (Bucket p) ≡ true

  -- adding an item appends its row without a place
  pub part_more : (q P : ItemId → Bool) (i : ItemId) (r : Row) → IsClosed (with_one q i) P → q i ≡ false → P i ≡ false → row_of t i ≡ Some r → IsReordered (part_of q P t ++ bare r ∷ []) (part_of (with_one q i) P t)
  part_more q P i r closed new loose found =
      let all = Lawful-part P t l (with_one q i) closed in
      let form : shown P r ≡ bare r = bare_by (P r.id) r (ap P (row_id i t r found) ∙ loose) in
      let there : row_of (part_of (with_one q i) P t) i ≡ Some (bare r) = row_of-part P t l (with_one q i) i ∙ found_by (with_one q i i) (row_of t i) r (bare r) (shown P) (with_one-it q i) found form in
      subst (λ z. IsReordered (z ++ bare r ∷ []) (part_of (with_one q i) P t))
      (filter_fused (λ (x : Row). not (same_id x.id i)) (λ (x : Row). with_one q i x.id) (λ (x : Row). q x.id) (λ (x : Row). new_stays q i new x.id) (map (shown P) t))
      (last_row i (part_of (with_one q i) P t) (bare r) (all.ids i) there)

  -- placing an item moves its row to the end
  pub part_put : (q P : ItemId → Bool) (i : ItemId) (r : Row) → IsClosed q (with_one P i) → q i ≡ true → row_of t i ≡ Some r → IsReordered (without_row i (part_of q P t) ++ r ∷ []) (part_of q (with_one P i) t)
  part_put q P i r closed there found =
      let all = Lawful-part (with_one P i) t l q closed in
      let form : shown (with_one P i) r ≡ r = shown_by (with_one P i r.id) r (ap (with_one P i) (row_id i t r found) ∙ with_one-it P i) in
      let row : row_of (part_of q (with_one P i) t) i ≡ Some r = row_of-part (with_one P i) t l q i ∙ found_by (q i) (row_of t i) r r (shown (with_one P i)) there found form in
      subst (λ z. IsReordered (z ++ r ∷ []) (part_of q (with_one P i) t)) rest_same (last_row i (part_of q (with_one P i) t) r (all.ids i) row)
    where
      s : Row → Bool
      s = λ (x : Row). if q x.id then not (same_id x.id i) else false

      both : (b c : Bool) → (if b then not c else false) ≡ true → c ≡ false
      both true true e = absurd (let no : false ≡ true = e in cc)
      both true false e = refl
      both false c e = absurd (let no : false ≡ true = e in cc)

      same_test : (x : Row) → s (shown (with_one P i) x) ≡ s (shown P x)
      same_test x = ap (λ j. if q j then not (same_id j i) else false) (shown-id (with_one P i) x ∙ sym (shown-id P x))

      same_row : (x : Row) → s (shown P x) ≡ true → shown (with_one P i) x ≡ shown P x
      same_row x e =
          let other : same_id x.id i ≡ false = both (q x.id) (same_id x.id i) (sym (ap (λ j. if q j then not (same_id j i) else false) (shown-id P x)) ∙ e) in
          ap (λ b. if b then x else bare x) (with_one-other P i x.id other)

      rest_same : without_row i (part_of q (with_one P i) t) ≡ without_row i (part_of q P t)
      rest_same =
          filter_fused (λ (x : Row). not (same_id x.id i)) (λ (x : Row). q x.id) s (λ x. refl) (map (shown (with_one P i)) t)
          ∙ filter_alike s (shown (with_one P i)) (shown P) same_test same_row t
          ∙ sym (filter_fused (λ (x : Row). not (same_id x.id i)) (λ (x : Row). q x.id) s (λ x. refl) (map (shown P) t))

-- THE ITEMS OF A BUCKET in a table in which an item was put at the end of a bucket
other_kid : (u : List Row) (i : ItemId) (c : ℕ) (j : ItemId) → parent_of u i ≡ None → parent_of u j ≡ Some c → not (same_id j i) ≡ true
other_kid u i c j none some = by_id (same_id j i) refl
  where
    by_id : (b : Bool) → same_id j i ≡ b → not b ≡ true
    by_id false e = refl
    by_id true e = absurd (let no : ◌≡◌ {A = Option ℕ} None (Some c) = sym none ∙ ap (parent_of u) (sym (same_id_equal j i e)) ∙ some in cc)

pub kids-put : (u : List Row) (i : ItemId) (r : Row) (c : ℕ) → Lawful u → parent_of u i ≡ None → r.id ≡ i → kids (without_row i u ++ r ∷ []) c ≡ kids u c ++ (if is_parent c r.parent then i ∷ [] else [])
kids-put u i r c l none is =
    kids-append (without_row i u) (r ∷ []) c
    ∙ (λ k. (kids-filter c (λ j. not (same_id j i)) u ∙ filter_all (λ j. not (same_id j i)) (kids u c) (All-weaker (λ (j : ItemId). parent_of u j ≡ Some c) (λ j. not (same_id j i) ≡ true) (λ j h. other_kid u i c j none h) (kids u c) (All-kids u l c))) k ++ by_parent (is_parent c r.parent) k)
  where
    by_parent : (b : Bool) → map (λ (x : Row). x.id) (if b then r ∷ [] else []) ≡ (if b then i ∷ [] else [])
    by_parent true = λ k. is k ∷ []
    by_parent false = refl
