-- A test finds its fault if the fault's row of the table applies. If the row doesn't apply, the test finds the fault only if a test of a fault with a smaller number finds one.
use Rattle.std.proofs.Common.{◌≡◌, ◌≢◌, ℕ, ◌<◌, ◌≤◌, ◌⊎◌, Bool, true, false, cond, List, Option, Some, None, Result, Ok, Err, refl, sym, ap, subst, ◌∙◌, arith, inl, inr}
use Rattle.std.proofs.lemmas.Bool.{or_parts, or_from}
use Rattle.std.proofs.lemmas.Bool.Decides.{Decides-like, Decides-not, Decides-and, Decides-or, Decides-eqb, leb_tells}
use Rattle.std.proofs.lemmas.Slice.Eq.{bytes_eq-Decides}
use Rattle.std.specs.Bool.{Decides}
use Rattle.std.specs.Prelude.{codes, bytes_eq, not, nat_eq, nat_le, is_some, unwrap_or, ◌||◌, ◌&&◌}
use Rattle.std.specs.List.{starts_with}
use Rattle.crush_units.specs.declared.id.ItemId.{ItemId}
use Rattle.crush_units.specs.declared.id.ItemId.TheVariants.{Device, Bucket}
use Rattle.crush_units.specs.declared.weight.WeightFault.{WeightFault}
use Rattle.crush_units.specs.Alg.{alg_of_text}
use Rattle.crush_units.specs.Weight.{weight_of_text}
use Rattle.crush_units.specs.declared.limits.TheConstants.{HEAVIEST_DEVICE, MOST_STEPS}
use Rattle.crush_model.specs.Table.{is_placed}
use Rattle.crush_model.specs.Lawful.{is_too_heavy}
use Rattle.crush_edits.specs.Setting.{kind_number}
use Rattle.crush_edits.specs.Fits.{is_reserved}
use Rattle.crush_builder.specs.Built.{Draft, with_next_item}
use Rattle.crush_builder.specs.Building.{item_named, is_bucket_kind, is_full_of_devices, is_full_of_buckets, is_full_of_kinds, is_full_of_tunables}
use Rattle.crush_builder.specs.Rules.{complete_bucket_named, is_full_of_rules}
use Rattle.crush_units.specs.Words.{is_brace_word}
use Rattle.crush_text.specs.declared.fault.TextFaultKind.{TextFaultKind}
use Rattle.crush_text.specs.declared.fault.TextFaultKind.TheVariants.{BadWord, Ended, Unexpected, BadNumber, BadWeight, DuplicateId, DuplicateName, UnknownType, UnknownItem, SecondParent, OtherAlgorithm, LeftOut, UnknownBucketInRule, TooMany, SumTooLarge, OutOfMemory}
use Rattle.crush_text.specs.Role.{Role, kind_of_word, units_or_none, key, number, opening, tunable_name, type_number, type_name, device_id, new_name, bucket_id, id_or_alg, id_class, algorithm, item_or_end, item, lone_item, weight, rule_name, rule_id_key, rule_id, step_or_end, step_word, taken_bucket, step_order, step_count, step_type}
use Rattle.crush_text.specs.Tests.{Test, word_tests, is_either, comes_first, is_out_of_place, is_known, is_full, is_weight_for, is_step_word}
use Rattle.crush_text.specs.Rows.{IsBrace, ComesFirst, IsNeither, IsNoStepWord, IsUnexpected, IsBadNumber, IsNoWeightOf, IsBadWeight, IsDuplicateId, IsDuplicateName, IsUnknownType, IsUnknownItem, IsSecondParent, IsOtherAlgorithm, IsLeftOut, IsUnknownBucketInRule, IsOneTooMany, IsTooMany, IsSumTooLarge, Holds}
use Rattle.crush_text.proofs.Judged.{fires, NoneFires, above, not_below}
use Rattle.crush_text.proofs.Reserved.{no_key, not_reserved}

-- A TEST AND ITS MEANING: a test that is never true
no_row : Decides false ⊥
no_row = (λ e. absurd cc, λ h. absurd h)

-- a test that is always true
each_row : Decides true (Unit {0})
each_row = (λ e. tt, λ h. refl)

-- a test by itself, whose meaning is that it is true
itself : (b : Bool) → Decides b (b ≡ true)
itself b = (λ e. e, λ e. e)

-- the negation of a test means that the test is false
isnt : (b : Bool) → Decides (not b) (b ≡ false)
isnt true = (λ e. absurd cc, λ e. absurd cc)
isnt false = (λ e. refl, λ e. refl)

-- if the negation of a test is false, then the test is true
not_not : (b : Bool) → not b ≡ false → b ≡ true
not_not true e = refl
not_not false e = absurd cc

-- whether an option is `None`
none_tells : {A : Type 0} (o : Option A) → Decides (not (is_some o)) (o ≡ None)
none_tells None = (λ e. refl, λ e. refl)
none_tells {A = A} (Some x) = (λ e. absurd cc, λ e. absurd (let no : (let n : Option A = Some x in n) ≡ None = e in cc))

-- the test whether a word is one of two words
either_tells : (w k l : List ℕ) → Decides (is_either w k l) ((w ≡ k) ⊎ (w ≡ l))
either_tells w k l = Decides-or _ _ (bytes_eq-Decides w k) (bytes_eq-Decides w l)

-- the test whether a word is neither of two words
none_of_two : (w k l : List ℕ) → Decides (not (is_either w k l)) (IsNeither w k l)
none_of_two w k l = Decides-like _ (λ h. (λ e. h (inl e), λ e. h (inr e))) (λ h s. by_side h s) (Decides-not _ (either_tells w k l))
  where
    by_side : IsNeither w k l → (w ≡ k) ⊎ (w ≡ l) → ⊥
    by_side h (inl e) = h.0 e
    by_side h (inr e) = h.1 e

-- the test whether a word is neither of two words nor a third word, if the third word is allowed
nor_third : (b : Bool) (w k l m : List ℕ) → Decides (not (is_either w k l || (b && bytes_eq w m))) ((w ≢ k) × (w ≢ l) × (b ≡ true → w ≢ m))
nor_third b w k l m = Decides-like _ (λ h. (λ e. h (inl (inl e)), λ e. h (inl (inr e)), λ t e. h (inr (t, e)))) (λ h s. by_side h s) (Decides-not _ (Decides-or _ _ (either_tells w k l) (Decides-and _ _ (itself b) (bytes_eq-Decides w m))))
  where
    by_side : (w ≢ k) × (w ≢ l) × (b ≡ true → w ≢ m) → ((w ≡ k) ⊎ (w ≡ l)) ⊎ ((b ≡ true) × (w ≡ m)) → ⊥
    by_side h (inl (inl e)) = h.0 e
    by_side h (inl (inr e)) = h.1 e
    by_side h (inr e) = h.2 e.0 e.1

-- the test whether a word is a brace
pub brace_tells : (w : List ℕ) → Decides (is_brace_word w) (IsBrace w)
brace_tells w = Decides-or _ _ (bytes_eq-Decides w _) (bytes_eq-Decides w _)

-- the test whether a word begins a tunable, a device or a type
first_tells : (w : List ℕ) → Decides (comes_first w) (ComesFirst w)
first_tells w = Decides-or _ _ (bytes_eq-Decides w _) (either_tells w _ _)

-- a test that can't be true is false
no_true : (b : Bool) → (b ≡ true → ⊥) → b ≡ false
no_true true h = absurd (h refl)
no_true false h = refl

-- the test whether a text isn't a weight that an item may have
no_weight_tells : (i : ItemId) (r : Result ℕ WeightFault) → Decides (not (is_weight_for i r)) (IsNoWeightOf i r)
no_weight_tells i (Err f) = each_row
no_weight_tells (Device n) (Ok w) = by_it (nat_le w HEAVIEST_DEVICE) (leb_tells w HEAVIEST_DEVICE)
  where
    by_it : (b : Bool) → ((b ≡ true) × (w ≤ HEAVIEST_DEVICE)) ⊎ ((b ≡ false) × (HEAVIEST_DEVICE < w)) → Decides (not b) (HEAVIEST_DEVICE < w)
    by_it b (inl p) = (λ e. let t = p.0 in absurd cc, λ lt. absurd (let le = p.1 in omega (arith, lt, le)))
    by_it b (inr p) = (λ e. p.1, λ lt. ap not p.0)
no_weight_tells (Bucket b) (Ok w) = no_row

-- THE FIRST WORD of a statement
module _ (d : Draft) (w : List ℕ) where
  -- if the word isn't known, the row of an unknown type applies
  unknown_row : bytes_eq w (codes "class") ≡ false → is_known d w ≡ false → (is_reserved w ≡ false) × (is_bucket_kind d.setting (kind_of_word d w) ≡ false)
  unknown_row other unknown =
      let early = or_parts (comes_first w) _ unknown in
      let two = or_parts (bytes_eq w (codes "tunable")) _ early.0 in
      let three = or_parts (bytes_eq w (codes "device")) _ two.1 in
      let late = or_parts (is_either w (codes "rule") (codes "choose_args")) _ early.1 in
      let last = or_parts (bytes_eq w (codes "rule")) _ late.0 in
      (not_reserved w (record { tunable = two.0; device = three.0; kind = three.1; rule = last.0; class = other; weights = last.1 }), late.1)

  -- if the row of an unknown type applies, then the word isn't known
  row_unknown : (is_reserved w ≡ false) × (is_bucket_kind d.setting (kind_of_word d w) ≡ false) → is_known d w ≡ false
  row_unknown h =
      let n = no_key w h.0 in
      or_from _ _ (or_from _ _ n.tunable (or_from _ _ n.device n.kind)) (or_from _ _ (or_from _ _ n.rule n.weights) h.1)

  -- if the word is known and there is no room for what it begins, the row of too many applies
  full_row : bytes_eq w (codes "class") ≡ false → bytes_eq w (codes "choose_args") ≡ false → is_known d w ≡ true → is_full d w ≡ true → IsOneTooMany d w
  full_row other read known full = by_it (bytes_eq w (codes "tunable")) (bytes_eq w (codes "device")) (bytes_eq w (codes "type")) (bytes_eq w (codes "rule")) (bytes_eq w (codes "choose_args")) refl refl refl refl refl read known full
    where
      by_it : (a b c e x : Bool) → bytes_eq w (codes "tunable") ≡ a → bytes_eq w (codes "device") ≡ b → bytes_eq w (codes "type") ≡ c → bytes_eq w (codes "rule") ≡ e → bytes_eq w (codes "choose_args") ≡ x
          → x ≡ false → ((a || (b || c)) || ((e || x) || is_bucket_kind d.setting (kind_of_word d w))) ≡ true
          → cond a (is_full_of_tunables d) (cond b (is_full_of_devices d) (cond c (is_full_of_kinds d) (cond e (is_full_of_rules d) (is_full_of_buckets d)))) ≡ true → IsOneTooMany d w
      by_it true b c e x ha hb hc he hx r k f = inl ((bytes_eq-Decides w _).0 ha, f)
      by_it false true c e x ha hb hc he hx r k f = inr (inl ((bytes_eq-Decides w _).0 hb, f))
      by_it false false true e x ha hb hc he hx r k f = inr (inr (inl ((bytes_eq-Decides w _).0 hc, f)))
      by_it false false false true x ha hb hc he hx r k f = inr (inr (inr (inl ((bytes_eq-Decides w _).0 he, f))))
      by_it false false false false true ha hb hc he hx r k f = absurd cc
      by_it false false false false false ha hb hc he hx r k f = inr (inr (inr (inr ((not_reserved w (record { tunable = ha; device = hb; kind = hc; rule = he; class = other; weights = hx }), k), f))))

  -- if the row of too many applies, then there is no room
  row_full : IsOneTooMany d w → is_full d w ≡ true
  row_full (inl h) = subst (λ (x : List ℕ). is_full d x ≡ true) (sym h.0) h.1
  row_full (inr (inl h)) = subst (λ (x : List ℕ). is_full d x ≡ true) (sym h.0) h.1
  row_full (inr (inr (inl h))) = subst (λ (x : List ℕ). is_full d x ≡ true) (sym h.0) h.1
  row_full (inr (inr (inr (inl h)))) = subst (λ (x : List ℕ). is_full d x ≡ true) (sym h.0) h.1
  row_full (inr (inr (inr (inr h)))) = let n = no_key w h.0.0 in rw (n.tunable, n.device, n.kind, n.rule) h.1

-- AN ITEM BY ITS NAME: if the name's item exists, then the test P is about this item
named_row : (P : ItemId → Bool) (o : Option ItemId) → not (is_some o) ≡ false → P (unwrap_or o (Device 0)) ≡ true → (i : ItemId) × (o ≡ Some i) × (P i ≡ true)
named_row P (Some i) there e = (i, refl, e)
named_row P None there e = absurd cc

-- conversely, if the name's item exists and P is true of it, then P is true of `unwrap_or o`
row_named : (P : ItemId → Bool) (o : Option ItemId) → (i : ItemId) × (o ≡ Some i) × (P i ≡ true) → P (unwrap_or o (Device 0)) ≡ true
row_named P o h = ap (λ (x : Option ItemId). P (unwrap_or x (Device 0))) h.1 ∙ h.2

-- A WEIGHT that its item may have: the test P is about this weight
weighed_row : (i : ItemId) (P : ℕ → Bool) (r : Result ℕ WeightFault) → not (is_weight_for i r) ≡ false → P (units_or_none r) ≡ true → (u : ℕ) × (r ≡ Ok u) × (IsNoWeightOf i (Ok u) → ⊥) × (P u ≡ true)
weighed_row i P (Ok u) fit e = (u, refl, λ no. let not_fit = (no_weight_tells i (Ok u)).1 no in absurd cc, e)
weighed_row i P (Err f) fit e = absurd cc

-- conversely, if the text is a weight that the item may have and P is true of it, then P is true of `units_or_none r`
row_weighed : (i : ItemId) (P : ℕ → Bool) (r : Result ℕ WeightFault) → (u : ℕ) × (r ≡ Ok u) × (IsNoWeightOf i (Ok u) → ⊥) × (P u ≡ true) → P (units_or_none r) ≡ true
row_weighed i P r h = ap (λ (x : Result ℕ WeightFault). P (units_or_none x)) h.1 ∙ h.3

-- `pos` AFTER AN ITEM: if no item is before it, it is unexpected
behind_item : (any : Bool) (w : List ℕ) → w ≡ codes "pos" → not (is_either w (codes "item") (codes "}") || (any && bytes_eq w (codes "pos"))) ≡ false → any ≡ true
behind_item true w e h = refl
behind_item false w e h = absurd (let no : true ≡ false = subst (λ (x : List ℕ). not (is_either x (codes "item") (codes "}") || (false && bytes_eq x (codes "pos"))) ≡ false) e h in cc)

-- the word begins a step, or it is `choosemsr`, which isn't supported
abbrev StepSaid : List ℕ → Type 0
StepSaid w = ((w ≡ codes "take") ⊎ (((w ≡ codes "choose") ⊎ (w ≡ codes "chooseleaf")) ⊎ ((w ≡ codes "emit") ⊎ (starts_with nat_eq w (codes "set_") ≡ true)))) ⊎ (w ≡ codes "choosemsr")

-- the test whether a word doesn't begin a step
no_step_tells : (w : List ℕ) → Decides (not (is_step_word w || bytes_eq w (codes "choosemsr"))) (IsNoStepWord w)
no_step_tells w = Decides-like _ (λ h. (λ e. h (inl (inl e)), (λ e. h (inl (inr (inl (inl e)))), λ e. h (inl (inr (inl (inr e))))), λ e. h (inl (inr (inr (inl e)))), no_true _ (λ t. h (inl (inr (inr (inr t))))), λ e. h (inr e))) (λ h s. by_side h s)
    (Decides-not _ (Decides-or _ _ (Decides-or _ _ (bytes_eq-Decides w _) (Decides-or _ _ (either_tells w _ _) (Decides-or _ _ (bytes_eq-Decides w _) (itself _)))) (bytes_eq-Decides w _)))
  where
    by_side : IsNoStepWord w → StepSaid w → ⊥
    by_side h (inl (inl e)) = h.0 e
    by_side h (inl (inr (inl (inl e)))) = h.1.0 e
    by_side h (inl (inr (inl (inr e)))) = h.1.1 e
    by_side h (inl (inr (inr (inl e)))) = h.2 e
    by_side h (inl (inr (inr (inr t)))) = let f = h.3 in absurd cc
    by_side h (inr e) = h.4 e

-- the test whether a number is at most another number
le_tells : (a b : ℕ) → Decides (nat_le a b) (a ≤ b)
le_tells a b = by_it (nat_le a b) (leb_tells a b)
  where
    by_it : (c : Bool) → ((c ≡ true) × (a ≤ b)) ⊎ ((c ≡ false) × (b < a)) → Decides c (a ≤ b)
    by_it c (inl p) = (λ e. p.1, λ le. p.0)
    by_it c (inr p) = (λ e. let f = p.0 in absurd cc, λ le. absurd (let lt = p.1 in omega (arith, lt, le)))

-- A TEST AMONG OTHERS: if it is true and no test of a fault with a smaller number is true, then its meaning is true; and if its meaning is true, then the test is true
abbrev Means : TextFaultKind → List Test → Type 0 → Type 0
Means f ts A = (fires f ts ≡ true → NoneFires f ts → A) × (A → fires f ts ≡ true)

-- a test whose meaning is true whenever the test is true
alone : (b : Bool) (N A : Type 0) → Decides b A → (b ≡ true → N → A) × (A → b ≡ true)
alone b N A t = (λ e none. t.0 e, λ h. t.1 h)

-- THE ROWS, one by one
module _ (d : Draft) (w : List ℕ) where
  -- the tests are in the order of the rows
  pub in_order : (r : Role) → above 2 (word_tests d r w) ≡ true
  in_order (key k) = refl
  in_order r = refl

  unexpected : (r : Role) → Decides (fires Unexpected (word_tests d r w)) (IsUnexpected r w)
  unexpected (key k) = Decides-not _ (bytes_eq-Decides w k)
  unexpected (opening late or) = Decides-or _ _ (brace_tells w) (Decides-or _ _ (bytes_eq-Decides w _) (Decides-and _ _ (itself late) (first_tells w)))
  unexpected (type_name n) = Decides-or _ _ (brace_tells w) (Decides-and _ _ (itself (is_reserved w)) (Decides-not _ (Decides-eqb n 0)))
  unexpected id_or_alg = none_of_two w _ _
  unexpected (item_or_end any or) = nor_third any w _ _ _
  unexpected rule_id_key = none_of_two w _ _
  unexpected (step_or_end k or) = none_of_two w _ _
  unexpected step_word = no_step_tells w
  unexpected step_order = none_of_two w _ _
  unexpected r = brace_tells w

  bad_number : (r : Role) → Decides (fires BadNumber (word_tests d r w)) (IsBadNumber r w)
  bad_number (number most) = isnt _
  bad_number type_number = isnt _
  bad_number device_id = isnt _
  bad_number bucket_id = isnt _
  bad_number rule_id = isnt _
  bad_number step_count = isnt _
  bad_number r = no_row

  bad_weight : (r : Role) → Decides (fires BadWeight (word_tests d r w)) (IsBadWeight r w)
  bad_weight (weight i) = no_weight_tells i (weight_of_text w)
  bad_weight r = no_row

  duplicate_id : (r : Role) → Decides (fires DuplicateId (word_tests d r w)) (IsDuplicateId d r w)
  duplicate_id type_number = itself _
  duplicate_id device_id = itself _
  duplicate_id bucket_id = itself _
  duplicate_id rule_id = itself _
  duplicate_id r = no_row

  duplicate_name : (r : Role) → Decides (fires DuplicateName (word_tests d r w)) (IsDuplicateName d r w)
  duplicate_name tunable_name = itself _
  duplicate_name (type_name n) = itself _
  duplicate_name new_name = itself _
  duplicate_name id_class = itself _
  duplicate_name rule_name = itself _
  duplicate_name r = no_row

  -- a first word that isn't out of place isn't `class`
  no_class : (late : Bool) → is_out_of_place late w ≡ false → bytes_eq w (codes "class") ≡ false
  no_class late e = (or_parts (bytes_eq w (codes "class")) _ (or_parts (is_brace_word w) _ e).1).0

  unknown_type : (r : Role) → Means UnknownType (word_tests d r w) (IsUnknownType d r w)
  unknown_type (opening late or) = (λ e none. unknown_row d w (no_class late (none Unexpected (omega arith))) ((isnt (is_known d w)).0 e), λ h. (isnt (is_known d w)).1 (row_unknown d w h))
  unknown_type step_type = alone _ _ _ (none_tells (kind_number d.setting w))
  unknown_type r = alone _ _ _ no_row

  unknown_item : (r : Role) → Decides (fires UnknownItem (word_tests d r w)) (IsUnknownItem d r w)
  unknown_item item = none_tells (item_named d w)
  unknown_item lone_item = none_tells (item_named d w)
  unknown_item r = no_row

  second_parent : (r : Role) → Means SecondParent (word_tests d r w) (IsSecondParent d r w)
  second_parent item = (λ e none. named_row (is_placed d.table) (item_named d w) (none UnknownItem (omega arith)) e, λ h. row_named (is_placed d.table) (item_named d w) h)
  second_parent lone_item = (λ e none. named_row (is_placed d.table) (item_named d w) (none UnknownItem (omega arith)) e, λ h. row_named (is_placed d.table) (item_named d w) h)
  second_parent r = alone _ _ _ no_row

  other_algorithm : (r : Role) → Decides (fires OtherAlgorithm (word_tests d r w)) (IsOtherAlgorithm r w)
  other_algorithm algorithm = none_tells (alg_of_text w)
  other_algorithm r = no_row

  left_out : (r : Role) → Means LeftOut (word_tests d r w) (IsLeftOut r w)
  left_out (opening late or) = alone _ _ _ (bytes_eq-Decides w _)
  left_out (item_or_end any or) = (λ e none. let is = (bytes_eq-Decides w _).0 e in (behind_item any w is (none Unexpected (omega arith)), is), λ h. (bytes_eq-Decides w _).1 h.1)
  left_out step_word = alone _ _ _ (bytes_eq-Decides w _)
  left_out r = alone _ _ _ no_row

  no_bucket : (r : Role) → Decides (fires UnknownBucketInRule (word_tests d r w)) (IsUnknownBucketInRule d r w)
  no_bucket taken_bucket = none_tells (complete_bucket_named d w)
  no_bucket r = no_row

  too_many : (r : Role) → Means TooMany (word_tests d r w) (IsTooMany d r w)
  too_many (opening late or) = (
    λ e none. full_row d w (no_class late (none Unexpected (omega arith))) (none LeftOut (omega arith)) (not_not (is_known d w) (none UnknownType (omega arith))) e,
    λ h. row_full d w h,
  )
  too_many id_or_alg = alone _ _ _ (Decides-and _ _ (bytes_eq-Decides w _) (itself _))
  too_many (step_or_end k or) = alone _ _ _ (Decides-and _ _ (bytes_eq-Decides w _) (le_tells MOST_STEPS k))
  too_many r = alone _ _ _ no_row

  -- whether a sum is too large with an item without a weight, or with an item of this weight
  abbrev heavy_item : ItemId → Bool
  heavy_item i = is_too_heavy (with_next_item d i None).table

  abbrev heavy_weight : ItemId → ℕ → Bool
  heavy_weight i u = is_too_heavy (with_next_item d i (Some u)).table

  sum_too_large : (r : Role) → Means SumTooLarge (word_tests d r w) (IsSumTooLarge d r w)
  sum_too_large lone_item = (λ e none. named_row heavy_item (item_named d w) (none UnknownItem (omega arith)) e, λ h. row_named heavy_item (item_named d w) h)
  sum_too_large (weight i) = (λ e none. weighed_row i (heavy_weight i) (weight_of_text w) (none BadWeight (omega arith)) e, λ h. row_weighed i (heavy_weight i) (weight_of_text w) h)
  sum_too_large r = alone _ _ _ no_row

  -- the row of OutOfMemory, which applies to no word
  no_memory : (r : Role) → Decides (fires OutOfMemory (word_tests d r w)) ⊥
  no_memory (key k) = no_row
  no_memory r = no_row

  -- if a fault's row applies, then its test is true; if its test is true, and no test of a fault with a smaller number is true, then its row applies
  pub told : (f : TextFaultKind) (r : Role) → Means f (word_tests d r w) (Holds f d r w)
  told BadWord r = alone _ _ _ (Decides-like _ (λ e. let n = not_below 2 (word_tests d r w) BadWord (in_order r) (omega arith) in absurd cc) (λ h. absurd h) (itself _))
  told Ended r = alone _ _ _ (Decides-like _ (λ e. let n = not_below 2 (word_tests d r w) Ended (in_order r) (omega arith) in absurd cc) (λ h. absurd h) (itself _))
  told Unexpected r = alone _ _ _ (unexpected r)
  told BadNumber r = alone _ _ _ (bad_number r)
  told BadWeight r = alone _ _ _ (bad_weight r)
  told DuplicateId r = alone _ _ _ (duplicate_id r)
  told DuplicateName r = alone _ _ _ (duplicate_name r)
  told UnknownType r = unknown_type r
  told UnknownItem r = alone _ _ _ (unknown_item r)
  told SecondParent r = second_parent r
  told OtherAlgorithm r = alone _ _ _ (other_algorithm r)
  told LeftOut r = left_out r
  told UnknownBucketInRule r = alone _ _ _ (no_bucket r)
  told TooMany r = too_many r
  told SumTooLarge r = sum_too_large r
  told OutOfMemory r = alone _ _ _ (no_memory r)
