-- The id of a name: the names of the ids decide it. What it is after each change of a table.
use Rattle.std.proofs.Common.{◌≡◌, ◌≢◌, ◌⊎◌, inl, inr, ⊎_elim, ℕ, ◌+◌, ◌≤◌, Bool, true, false, List, [], ◌∷◌, ◌++◌, ap, sym, ◌∙◌, refl, arith}
use Rattle.std.specs.Prelude.{◌==◌, not, if◌then◌else◌, Option, Some, None, map, is_some, option_and_then, unwrap_or, bytes_eq}
use Rattle.std.specs.Option.{option_map}
use Rattle.std.proofs.lemmas.List.Sums.{sum_by-cons}
use Rattle.crush_units.specs.declared.id.ItemId.{ItemId}
use Rattle.crush_units.specs.declared.id.ItemId.TheVariants.{Bucket}
use Rattle.crush_units.specs.Id.{same_id}
use Rattle.crush_units.proofs.Ids.{same_id_refl, same_id_tells}
use Rattle.crush_model.specs.Table.{Row, row_of, row_named, id_named, is_named, name_of}
use Rattle.crush_model.specs.Lawful.{Lawful}
use Rattle.crush_model.specs.Columns.{set_weights, set_name, without_row, exchange_id, exchange_parents, exchange_names, swap_buckets}
use Rattle.crush_model.proofs.Reorder.{one_if}
use Rattle.crush_model.proofs.Found.{Distinct, DistinctNames, Distinct-tail, times, times-cons}
use Rattle.crush_model.proofs.Changes.{with_weight, with_weight-id, with_name, with_name-id}
use Rattle.crush_model.proofs.Climbs.{eqb_turned}
use Rattle.crush_model.proofs.Removed.{only}
use Rattle.crush_model.proofs.Renamed.{named}
use Rattle.crush_model.proofs.Tested.{bytes_equal, bytes_itself}
use Rattle.crush_model.proofs.Weighs.{true_or_false}

-- a comparison of two names, as a test and as a fact
tells : (m n : List ℕ) → ((bytes_eq m n ≡ true) × (m ≡ n)) ⊎ ((bytes_eq m n ≡ false) × (m ≢ n))
tells m n = ⊎_elim
    (λ yes. inl (yes, bytes_equal m n yes))
    (λ no. inr (no, λ e. let same : bytes_eq m n ≡ true = ap (bytes_eq m) (sym e) ∙ bytes_itself m in absurd cc))
    (true_or_false (bytes_eq m n))

choose : {X : Type 0} (b c : Bool) (x y : X) → b ≡ c → (if b then x else y) ≡ (if c then x else y)
choose b c x y e = ap (λ z. if z then x else y) e

-- ONE MORE ROW
id_if : (b : Bool) (r : Row) (o : Option Row) → option_map (λ (x : Row). x.id) (if b then Some r else o) ≡ (if b then Some r.id else option_map (λ (x : Row). x.id) o)
id_if true r o = refl
id_if false r o = refl

pub id_named-cons : (r : Row) (t : List Row) (n : List ℕ) → id_named (r ∷ t) n ≡ (if bytes_eq r.name n then Some r.id else id_named t n)
id_named-cons r t n = id_if (bytes_eq r.name n) r (row_named t n)

name_if : (b : Bool) (r : Row) (o : Option Row) → option_map (λ (x : Row). x.name) (if b then Some r else o) ≡ (if b then Some r.name else option_map (λ (x : Row). x.name) o)
name_if true r o = refl
name_if false r o = refl

pub name_of-cons : (r : Row) (t : List Row) (i : ItemId) → name_of (r ∷ t) i ≡ (if same_id r.id i then Some r.name else name_of t i)
name_of-cons r t i = name_if (same_id r.id i) r (row_of t i)

named-cons : (n : List ℕ) (r : Row) (t : List Row) → named n (r ∷ t) ≡ one_if (bytes_eq r.name n) + named n t
named-cons n r t = sum_by-cons (λ (x : Row). one_if (bytes_eq x.name n)) r t

-- if an item has a name, then at least one row has the name
named_once : (t : List Row) (i : ItemId) (n : List ℕ) → name_of t i ≡ Some n → 1 ≤ named n t
named_once [] i n e = absurd cc
named_once (r ∷ t) i n e = ⊎_elim
    (λ yes.
    let found : Some r.name ≡ Some n = sym (name_of-cons r t i ∙ choose (same_id r.id i) true (Some r.name) (name_of t i) yes.0) ∙ e in
    let is : r.name ≡ n = cc in
    let one : one_if (bytes_eq r.name n) ≡ 1 = ap (λ z. one_if (bytes_eq z n)) is ∙ ap one_if (bytes_itself n) in
    omega (arith, one, named-cons n r t))
    (λ no. omega (arith, named-cons n r t, named_once t i n (sym (name_of-cons r t i ∙ choose (same_id r.id i) false (Some r.name) (name_of t i) no.0) ∙ e)))
    (same_id_tells r.id i)

there_once : (t : List Row) (i : ItemId) (n : List ℕ) → id_named t n ≡ Some i → 1 ≤ times i t
there_once [] i n e = absurd cc
there_once (r ∷ t) i n e = ⊎_elim
    (λ hit.
    let found : Some r.id ≡ Some i = sym (id_named-cons r t n ∙ choose (bytes_eq r.name n) true (Some r.id) (id_named t n) hit.0) ∙ e in
    let is : r.id ≡ i = cc in
    let one : one_if (same_id r.id i) ≡ 1 = ap (λ z. one_if (same_id z i)) is ∙ ap one_if (same_id_refl i) in
    omega (arith, one, times-cons i r t))
    (λ miss. omega (arith, times-cons i r t, there_once t i n (sym (id_named-cons r t n ∙ choose (bytes_eq r.name n) false (Some r.id) (id_named t n) miss.0) ∙ e)))
    (tells r.name n)

names-tail : (r : Row) (t : List Row) → DistinctNames (r ∷ t) → DistinctNames t
names-tail r t d n = omega (arith, d n, named-cons n r t)

-- THE TWO COLUMNS: if names are distinct, an item is found by its name; if ids are distinct, the item that is found has the name
pub id_named-by : (t : List Row) (i : ItemId) (n : List ℕ) → DistinctNames t → name_of t i ≡ Some n → id_named t n ≡ Some i
id_named-by [] i n d e = absurd cc
id_named-by (r ∷ t) i n d e = ⊎_elim
    (λ yes.
    let found : Some r.name ≡ Some n = sym (name_of-cons r t i ∙ choose (same_id r.id i) true (Some r.name) (name_of t i) yes.0) ∙ e in
    let is : r.name ≡ n = cc in
    id_named-cons r t n ∙ choose (bytes_eq r.name n) true (Some r.id) (id_named t n) (ap (λ z. bytes_eq z n) is ∙ bytes_itself n) ∙ ap Some yes.1)
    (λ no.
    let later : name_of t i ≡ Some n = sym (name_of-cons r t i ∙ choose (same_id r.id i) false (Some r.name) (name_of t i) no.0) ∙ e in ⊎_elim
    (λ hit. absurd (let one : one_if (bytes_eq r.name n) ≡ 1 = ap one_if hit.0 in omega (arith, one, d n, named-cons n r t, named_once t i n later)))
    (λ miss. id_named-cons r t n ∙ choose (bytes_eq r.name n) false (Some r.id) (id_named t n) miss.0 ∙ id_named-by t i n (names-tail r t d) later)
    (tells r.name n))
    (same_id_tells r.id i)

pub name_of-found : (t : List Row) (i : ItemId) (n : List ℕ) → Distinct t → id_named t n ≡ Some i → name_of t i ≡ Some n
name_of-found [] i n d e = absurd cc
name_of-found (r ∷ t) i n d e = ⊎_elim
    (λ hit.
    let found : Some r.id ≡ Some i = sym (id_named-cons r t n ∙ choose (bytes_eq r.name n) true (Some r.id) (id_named t n) hit.0) ∙ e in
    let is : r.id ≡ i = cc in
    name_of-cons r t i ∙ choose (same_id r.id i) true (Some r.name) (name_of t i) (ap (λ z. same_id z i) is ∙ same_id_refl i) ∙ ap Some hit.1)
    (λ miss.
    let later : id_named t n ≡ Some i = sym (id_named-cons r t n ∙ choose (bytes_eq r.name n) false (Some r.id) (id_named t n) miss.0) ∙ e in ⊎_elim
    (λ yes. absurd (let one : one_if (same_id r.id i) ≡ 1 = ap one_if yes.0 in omega (arith, one, d i, times-cons i r t, there_once t i n later)))
    (λ no. name_of-cons r t i ∙ choose (same_id r.id i) false (Some r.name) (name_of t i) no.0 ∙ name_of-found t i n (Distinct-tail r t d) later)
    (same_id_tells r.id i))
    (tells r.name n)

-- if no item has a name, no id is found for it
pub id_named-nobody : (t : List Row) (n : List ℕ) → Distinct t → ((i : ItemId) → name_of t i ≡ Some n → ⊥) → id_named t n ≡ None
id_named-nobody t n d none = by_id (id_named t n) refl where
  by_id : (o : Option ItemId) → id_named t n ≡ o → o ≡ None
  by_id None e = refl
  by_id (Some i) e = absurd (none i (name_of-found t i n d e))

-- two tables have the same id for a name if the same items have the name in both
pub id_named-alike : (t u : List Row) (n : List ℕ) → Lawful t → Lawful u → ((i : ItemId) → name_of t i ≡ Some n → name_of u i ≡ Some n) → ((i : ItemId) → name_of u i ≡ Some n → name_of t i ≡ Some n) → id_named t n ≡ id_named u n
id_named-alike t u n l m there back = by_id (id_named t n) refl where
  by_id : (o : Option ItemId) → id_named t n ≡ o → o ≡ id_named u n
  by_id None e = sym (id_named-nobody u n m.ids (λ i h. let here : ◌≡◌ {A = Option ItemId} (Some i) None = sym (id_named-by t i n l.names (back i h)) ∙ e in cc))
  by_id (Some i) e = sym (id_named-by u i n m.names (there i (name_of-found t i n l.ids e)))

-- ROWS THAT ARE APPENDED
pub id_named-append : (t u : List Row) (n : List ℕ) → id_named (t ++ u) n ≡ (if is_named t n then id_named t n else id_named u n)
id_named-append [] u n = refl
id_named-append (r ∷ t) u n = by_name (bytes_eq r.name n) (row_named t n) (row_named (t ++ u) n) (id_named-append t u n) where
  by_name : (b : Bool) (o q : Option Row) → option_map (λ (x : Row). x.id) q ≡ (if is_some (option_map (λ (x : Row). x.id) o) then option_map (λ (x : Row). x.id) o else id_named u n)
      → option_map (λ (x : Row). x.id) (if b then Some r else q) ≡ (if is_some (option_map (λ (x : Row). x.id) (if b then Some r else o)) then option_map (λ (x : Row). x.id) (if b then Some r else o) else id_named u n)
  by_name true o q e = refl
  by_name false o q e = e

pub id_named-last : (t : List Row) (r : Row) (n : List ℕ) → is_named t r.name ≡ false → id_named (t ++ r ∷ []) n ≡ (if bytes_eq r.name n then Some r.id else id_named t n)
id_named-last t r n fresh = id_named-append t (r ∷ []) n ∙ ⊎_elim
    (λ hit.
    choose (is_named t n) false (id_named t n) (id_named (r ∷ []) n) (ap (is_named t) (sym hit.1) ∙ fresh)
    ∙ id_named-cons r [] n ∙ choose (bytes_eq r.name n) true (Some r.id) None hit.0 ∙ sym (choose (bytes_eq r.name n) true (Some r.id) (id_named t n) hit.0))
    (λ miss.
    ap (λ z. if is_named t n then id_named t n else z) (id_named-cons r [] n ∙ choose (bytes_eq r.name n) false (Some r.id) None miss.0)
    ∙ same_or_none (id_named t n) ∙ sym (choose (bytes_eq r.name n) false (Some r.id) (id_named t n) miss.0))
    (tells r.name n) where
      same_or_none : (o : Option ItemId) → (if is_some o then o else None) ≡ o
      same_or_none None = refl
      same_or_none (Some i) = refl

-- ROWS THAT ARE REMOVED: the id of a name stays if it passes the test
abbrev pub kept_id : (ItemId → Bool) → Option ItemId → Option ItemId
kept_id q o = option_and_then (λ i. if q i then Some i else None) o

pub id_named-only : (q : ItemId → Bool) (t : List Row) (n : List ℕ) → DistinctNames t → id_named (only q t) n ≡ kept_id q (id_named t n)
id_named-only q [] n d = refl
id_named-only q (r ∷ t) n d = by_test (q r.id) refl (id_named-only q t n (names-tail r t d)) where
  gone : bytes_eq r.name n ≡ true → id_named t n ≡ None
  gone hit = by_id (id_named t n) refl where
    by_id : (o : Option ItemId) → id_named t n ≡ o → o ≡ None
    by_id None e = refl
    by_id (Some i) e = absurd (let one : one_if (bytes_eq r.name n) ≡ 1 = ap one_if hit in omega (arith, one, d n, named-cons n r t, row_counts t i n e)) where
      row_counts : (u : List Row) (j : ItemId) (m : List ℕ) → id_named u m ≡ Some j → 1 ≤ named m u
      row_counts [] j m g = absurd cc
      row_counts (x ∷ u) j m g = ⊎_elim
          (λ yes. let one : one_if (bytes_eq x.name m) ≡ 1 = ap one_if yes.0 in omega (arith, one, named-cons m x u))
          (λ no. omega (arith, named-cons m x u, row_counts u j m (sym (id_named-cons x u m ∙ choose (bytes_eq x.name m) false (Some x.id) (id_named u m) no.0) ∙ g)))
          (tells x.name m)

  by_test : (b : Bool) → q r.id ≡ b → id_named (only q t) n ≡ kept_id q (id_named t n) → id_named (if b then r ∷ only q t else only q t) n ≡ kept_id q (id_named (r ∷ t) n)
  by_test true e rest = ⊎_elim
      (λ hit. id_named-cons r (only q t) n ∙ choose (bytes_eq r.name n) true (Some r.id) (id_named (only q t) n) hit.0
      ∙ sym (ap (kept_id q) (id_named-cons r t n ∙ choose (bytes_eq r.name n) true (Some r.id) (id_named t n) hit.0) ∙ choose (q r.id) true (Some r.id) None e))
      (λ miss. id_named-cons r (only q t) n ∙ choose (bytes_eq r.name n) false (Some r.id) (id_named (only q t) n) miss.0 ∙ rest
      ∙ sym (ap (kept_id q) (id_named-cons r t n ∙ choose (bytes_eq r.name n) false (Some r.id) (id_named t n) miss.0)))
      (tells r.name n)
  by_test false e rest = ⊎_elim
      (λ hit. rest ∙ ap (kept_id q) (gone hit.0)
      ∙ sym (ap (kept_id q) (id_named-cons r t n ∙ choose (bytes_eq r.name n) true (Some r.id) (id_named t n) hit.0) ∙ choose (q r.id) false (Some r.id) None e))
      (λ miss. rest ∙ sym (ap (kept_id q) (id_named-cons r t n ∙ choose (bytes_eq r.name n) false (Some r.id) (id_named t n) miss.0)))
      (tells r.name n)

pub id_named-without_row : (i : ItemId) (t : List Row) (m n : List ℕ) → Lawful t → name_of t i ≡ Some m → id_named (without_row i t) n ≡ (if bytes_eq m n then None else id_named t n)
id_named-without_row i t m n l e = id_named-only (λ j. not (same_id j i)) t n l.names ∙ ⊎_elim
    (λ hit. ap (kept_id (λ j. not (same_id j i))) (id_named-by t i n l.names (e ∙ ap Some hit.1)) ∙ choose (not (same_id i i)) false (Some i) None (ap not (same_id_refl i))
    ∙ sym (choose (bytes_eq m n) true None (id_named t n) hit.0))
    (λ miss. by_id miss.1 (id_named t n) refl ∙ sym (choose (bytes_eq m n) false None (id_named t n) miss.0))
    (tells m n) where
      by_id : m ≢ n → (o : Option ItemId) → id_named t n ≡ o → kept_id (λ j. not (same_id j i)) o ≡ o
      by_id miss None g = refl
      by_id miss (Some j) g = ⊎_elim
          (λ yes. absurd (miss (let both : Some m ≡ Some n = sym e ∙ ap (name_of t) (sym yes.1) ∙ name_of-found t j n l.ids g in cc)))
          (λ no. choose (not (same_id j i)) true (Some j) None (ap not no.0))
          (same_id_tells j i)

-- COLUMNS OTHER THAN ID AND NAME
module _ (f : Row → Row) (ids : (r : Row) → (f r).id ≡ r.id) (names : (r : Row) → (f r).name ≡ r.name) where
  pub id_named-map : (t : List Row) (n : List ℕ) → id_named (map f t) n ≡ id_named t n
  id_named-map [] n = refl
  id_named-map (r ∷ t) n =
      id_named-cons (f r) (map f t) n ∙ choose (bytes_eq (f r).name n) (bytes_eq r.name n) (Some (f r).id) (id_named (map f t) n) (ap (λ z. bytes_eq z n) (names r))
      ∙ (λ k. if bytes_eq r.name n then Some (ids r k) else id_named-map t n k) ∙ sym (id_named-cons r t n)

weight_name : (b : Bool) (w : ℕ) (r : Row) → (if b then record r { weight = w } else r).name ≡ r.name
weight_name true w r = refl
weight_name false w r = refl

pub id_named-set_weights : (which : Row → Bool) (w : ℕ) (t : List Row) (n : List ℕ) → id_named (set_weights which w t) n ≡ id_named t n
id_named-set_weights which w t n = id_named-map (with_weight which w) (with_weight-id which w) (λ r. weight_name (which r) w r) t n

pub id_named-exchange_parents : (a b : ℕ) (t : List Row) (n : List ℕ) → id_named (exchange_parents a b t) n ≡ id_named t n
id_named-exchange_parents a b t n = id_named-map (λ r. record r { parent = option_map (exchange_id a b) r.parent }) (λ r. refl) (λ r. refl) t n

-- THE NAME COLUMN
name_option : (b : Bool) (m : List ℕ) (r : Row) → (if b then record r { name = m } else r).name ≡ (if b then m else r.name)
name_option true m r = refl
name_option false m r = refl

set_name_of : (i : ItemId) (m : List ℕ) (t : List Row) (j : ItemId) → name_of (set_name i m t) j ≡ (if same_id j i then option_map (λ (_ : List ℕ). m) (name_of t j) else name_of t j)
set_name_of i m [] j = nothing (same_id j i) where
  nothing : (b : Bool) → ◌≡◌ {A = Option (List ℕ)} None (if b then None else None)
  nothing true = refl
  nothing false = refl
set_name_of i m (r ∷ t) j = ⊎_elim
    (λ here.
    let row : name_of (set_name i m (r ∷ t)) j ≡ Some (if same_id r.id i then m else r.name) =
    name_of-cons (with_name i m r) (set_name i m t) j ∙ choose (same_id (with_name i m r).id j) true (Some (with_name i m r).name) (name_of (set_name i m t) j) (ap (λ z. same_id z j) (with_name-id i m r) ∙ here.0)
    ∙ ap Some (name_option (same_id r.id i) m r) in
    let before : name_of (r ∷ t) j ≡ Some r.name = name_of-cons r t j ∙ choose (same_id r.id j) true (Some r.name) (name_of t j) here.0 in
    row ∙ ap (λ z. Some (if same_id z i then m else r.name)) here.1 ∙ split (same_id j i)
    ∙ sym (ap (λ z. if same_id j i then option_map (λ (_ : List ℕ). m) z else z) before))
    (λ later.
    name_of-cons (with_name i m r) (set_name i m t) j ∙ choose (same_id (with_name i m r).id j) false (Some (with_name i m r).name) (name_of (set_name i m t) j) (ap (λ z. same_id z j) (with_name-id i m r) ∙ later.0)
    ∙ set_name_of i m t j ∙ sym (ap (λ z. if same_id j i then option_map (λ (_ : List ℕ). m) z else z) (name_of-cons r t j ∙ choose (same_id r.id j) false (Some r.name) (name_of t j) later.0)))
    (same_id_tells r.id j) where
      split : (b : Bool) → Some (if b then m else r.name) ≡ (if b then Some m else Some r.name)
      split true = refl
      split false = refl

pub name_of-set_name : (i : ItemId) (m from : List ℕ) (t : List Row) → name_of t i ≡ Some from → name_of (set_name i m t) i ≡ Some m
name_of-set_name i m from t e = set_name_of i m t i ∙ choose (same_id i i) true _ _ (same_id_refl i) ∙ ap (option_map (λ (_ : List ℕ). m)) e

pub name_of-set_name_of_another : (i : ItemId) (m : List ℕ) (t : List Row) (j : ItemId) → same_id j i ≡ false → name_of (set_name i m t) j ≡ name_of t j
name_of-set_name_of_another i m t j e = set_name_of i m t j ∙ choose (same_id j i) false _ _ e

module _ (i : ItemId) (from m n : List ℕ) (t : List Row) (l : Lawful t) (after : Lawful (set_name i m t)) (e : name_of t i ≡ Some from) where
  -- an item that has a name other than the new one had this name before
  had_it : m ≢ n → (j : ItemId) → name_of (set_name i m t) j ≡ Some n → name_of t j ≡ Some n
  had_it other j h = ⊎_elim
      (λ yes. absurd (other (let both : Some m ≡ Some n = sym (name_of-set_name i m from t e) ∙ ap (name_of (set_name i m t)) (sym yes.1) ∙ h in cc)))
      (λ no. sym (name_of-set_name_of_another i m t j no.0) ∙ h)
      (same_id_tells j i)

  -- an item that had a name other than the old one still has this name
  has_it : from ≢ n → (j : ItemId) → name_of t j ≡ Some n → name_of (set_name i m t) j ≡ Some n
  has_it other j h = ⊎_elim
      (λ yes. absurd (other (let both : Some from ≡ Some n = sym e ∙ ap (name_of t) (sym yes.1) ∙ h in cc)))
      (λ no. name_of-set_name_of_another i m t j no.0 ∙ h)
      (same_id_tells j i)

  -- no item has the old name
  let_go : m ≢ n → from ≡ n → (j : ItemId) → name_of (set_name i m t) j ≡ Some n → ⊥
  let_go other old j h =
      let both : Some j ≡ Some i = sym (id_named-by t j n l.names (had_it other j h)) ∙ id_named-by t i n l.names (e ∙ ap Some old) in
      let is : j ≡ i = cc in
      other (let names : Some m ≡ Some n = sym (name_of-set_name i m from t e) ∙ ap (name_of (set_name i m t)) (sym is) ∙ h in cc)

  pub id_named-set_name : id_named (set_name i m t) n ≡ (if bytes_eq m n then Some i else (if bytes_eq from n then None else id_named t n))
  id_named-set_name =
      let rest : Option ItemId = if bytes_eq from n then None else id_named t n in ⊎_elim
      (λ new. id_named-by (set_name i m t) i n after.names (name_of-set_name i m from t e ∙ ap Some new.1) ∙ sym (choose (bytes_eq m n) true (Some i) rest new.0))
      (λ other. ⊎_elim
      (λ old. id_named-nobody (set_name i m t) n after.ids (let_go other.1 old.1) ∙ sym (choose (bytes_eq m n) false (Some i) rest other.0 ∙ choose (bytes_eq from n) true None (id_named t n) old.0))
      (λ third. id_named-alike (set_name i m t) t n after l (had_it other.1) (has_it third.1) ∙ sym (choose (bytes_eq m n) false (Some i) rest other.0 ∙ choose (bytes_eq from n) false None (id_named t n) third.0))
      (tells from n))
      (tells m n)

-- TWO NAMES ARE EXCHANGED
module _ (a b : ℕ) (m k : List ℕ) (t : List Row) (apart : (a == b) ≡ false) (e : name_of t (Bucket a) ≡ Some m) (g : name_of t (Bucket b) ≡ Some k) where
  abbrev turned : List Row
  turned = set_name (Bucket b) m t

  exchanged : exchange_names a b t ≡ set_name (Bucket a) k turned
  exchanged = λ z. set_name (Bucket a) (ap (λ o. unwrap_or o []) g z) (set_name (Bucket b) (ap (λ o. unwrap_or o []) e z) t)

  pub name_of-exchange_first : name_of (exchange_names a b t) (Bucket a) ≡ Some k
  name_of-exchange_first = ap (λ u. name_of u (Bucket a)) exchanged ∙ name_of-set_name (Bucket a) k m turned (name_of-set_name_of_another (Bucket b) m t (Bucket a) apart ∙ e)

  pub name_of-exchange_second : name_of (exchange_names a b t) (Bucket b) ≡ Some m
  name_of-exchange_second =
      ap (λ u. name_of u (Bucket b)) exchanged ∙ name_of-set_name_of_another (Bucket a) k turned (Bucket b) (eqb_turned b a ∙ apart) ∙ name_of-set_name (Bucket b) m k t g

  pub name_of-exchange_another : (j : ItemId) → same_id j (Bucket a) ≡ false → same_id j (Bucket b) ≡ false → name_of (exchange_names a b t) j ≡ name_of t j
  name_of-exchange_another j first second =
      ap (λ u. name_of u j) exchanged ∙ name_of-set_name_of_another (Bucket a) k turned j first ∙ name_of-set_name_of_another (Bucket b) m t j second

  module _ (n : List ℕ) (l : Lawful t) (after : Lawful (exchange_names a b t)) where
    third_had : m ≢ n → k ≢ n → (j : ItemId) → name_of (exchange_names a b t) j ≡ Some n → name_of t j ≡ Some n
    third_had other third j h = ⊎_elim
        (λ yes. absurd (third (let both : Some k ≡ Some n = sym name_of-exchange_first ∙ ap (name_of (exchange_names a b t)) (sym yes.1) ∙ h in cc)))
        (λ no. ⊎_elim
        (λ yes. absurd (other (let both : Some m ≡ Some n = sym name_of-exchange_second ∙ ap (name_of (exchange_names a b t)) (sym yes.1) ∙ h in cc)))
        (λ neither. sym (name_of-exchange_another j no.0 neither.0) ∙ h)
        (same_id_tells j (Bucket b)))
        (same_id_tells j (Bucket a))

    third_has : m ≢ n → k ≢ n → (j : ItemId) → name_of t j ≡ Some n → name_of (exchange_names a b t) j ≡ Some n
    third_has other third j h = ⊎_elim
        (λ yes. absurd (other (let both : Some m ≡ Some n = sym e ∙ ap (name_of t) (sym yes.1) ∙ h in cc)))
        (λ no. ⊎_elim
        (λ yes. absurd (third (let both : Some k ≡ Some n = sym g ∙ ap (name_of t) (sym yes.1) ∙ h in cc)))
        (λ neither. name_of-exchange_another j no.0 neither.0 ∙ h)
        (same_id_tells j (Bucket b)))
        (same_id_tells j (Bucket a))

    pub id_named-exchange_names : id_named (exchange_names a b t) n ≡ (if bytes_eq m n then Some (Bucket b) else (if bytes_eq k n then Some (Bucket a) else id_named t n))
    id_named-exchange_names =
        let u = exchange_names a b t in
        let rest : Option ItemId = if bytes_eq k n then Some (Bucket a) else id_named t n in ⊎_elim
        (λ hit. id_named-by u (Bucket b) n after.names (name_of-exchange_second ∙ ap Some hit.1) ∙ sym (choose (bytes_eq m n) true (Some (Bucket b)) rest hit.0))
        (λ other. ⊎_elim
        (λ hit. id_named-by u (Bucket a) n after.names (name_of-exchange_first ∙ ap Some hit.1) ∙ sym (choose (bytes_eq m n) false (Some (Bucket b)) rest other.0 ∙ choose (bytes_eq k n) true (Some (Bucket a)) (id_named t n) hit.0))
        (λ third. id_named-alike u t n after l (third_had other.1 third.1) (third_has other.1 third.1) ∙ sym (choose (bytes_eq m n) false (Some (Bucket b)) rest other.0 ∙ choose (bytes_eq k n) false (Some (Bucket a)) (id_named t n) third.0))
        (tells k n))
        (tells m n)

    pub id_named-swap_buckets : id_named (swap_buckets a b t) n ≡ (if bytes_eq m n then Some (Bucket b) else (if bytes_eq k n then Some (Bucket a) else id_named t n))
    id_named-swap_buckets = id_named-exchange_parents a b (exchange_names a b t) n ∙ id_named-exchange_names
