-- What the index of a table answers after rows were added to the table, and after an item with everything below it was removed.
use Rattle.std.proofs.Common.{◌≡◌, ℕ, zero, suc, ◌+◌, ◌≤◌, Bool, true, false, List, [], ◌∷◌, ◌++◌, ap, sym, subst, ◌∙◌, refl, arith, append-nil, append_assoc, ⊎_elim}
use Rattle.std.specs.Prelude.{◌==◌, ◌||◌, not, if◌then◌else◌, Option, Some, None, is_some, bytes_eq, nat_lt}
use Rattle.std.specs.List.{count_by}
use Rattle.std.specs.Option.{option_map}
use Rattle.std.proofs.lemmas.Bool.Decides.{nat_tests}
use Rattle.std.proofs.lemmas.List.Filters.{sum_by-filter_both}
use Rattle.std.proofs.lemmas.List.Sums.{sum_by-append, sum_by-cons}
use Rattle.crush_units.specs.declared.id.ItemId.{ItemId}
use Rattle.crush_units.specs.Id.{same_id}
use Rattle.crush_units.proofs.Ids.{same_id_refl}
use Rattle.crush_model.specs.Columns.{is_part, table_without, as_root, part}
use Rattle.crush_model.specs.Lawful.{Lawful}
use Rattle.crush_model.specs.Reordered.{IsReordered, nothing, keep, exchange, through}
use Rattle.crush_model.specs.Same.{Same}
use Rattle.crush_model.specs.Table.{Row, row_of, id_named, is_device, is_named, is_there, member, used_ids}
use Rattle.crush_model.proofs.Found.{Distinct, DistinctNames, times-append, is_there-times}
use Rattle.crush_model.proofs.Kept.{row_of-map}
use Rattle.crush_model.proofs.NameColumn.{id_named-last, id_named-only, id_named-map, kept_id}
use Rattle.crush_model.proofs.Removed.{only, row_of-only}
use Rattle.crush_model.proofs.Reorder.{one_if}
use Rattle.crush_model.proofs.Same.{uses, times_used, times_used-rows, used-same, member-count}
use Rattle.crush_model.proofs.Tested.{bytes_itself}
use Rattle.crush_model.proofs.UsedColumn.{used-last, used-map}
use Rattle.crush_model.proofs.Weighs.{true_or_false}
use Rattle.crush_nodes.specs.Guides.{place_under, place_in}
use Rattle.crush_nodes.specs.declared.place.Place.{Place}
use Rattle.crush_index.specs.declared.index.Index.{Index}
use Rattle.crush_index.specs.IndexAnswers.{IsIndexOf, Answers, answers, with_row, with_rows, without_rows}
use Rattle.crush_index.proofs.PlaceColumn.{place_in-last}
use Rattle.crush_index.proofs.AnswersLaws.{tells, is_named-append, is_there-append}

-- the answers that an index of the table gives
abbrev pub answer_of : List Row → Answers
answer_of t = record { names = λ n. id_named t n; places = λ i. place_in t i; used = λ k. member k (used_ids t) }

pub is_answer : (t : List Row) (index : Index) → IsIndexOf t index → answers index ≡ answer_of t
is_answer t index h = tells (answers index) (answer_of t) h.names h.places h.used

pub is_index : (t : List Row) (index : Index) → answers index ≡ answer_of t → IsIndexOf t index
is_index t index e = record {
  names = λ n j. (e j).names n;
  places = λ i j. (e j).places i;
  used = λ k j. (e j).used k;
}

-- WHAT IS IN ONE OF TWO TABLES
named_alone : (b : Bool) (r : Row) → is_some (option_map (λ (x : Row). x.id) (if b then Some r else None)) ≡ b
named_alone true r = refl
named_alone false r = refl

there_alone : (b : Bool) (r : Row) → is_some (if b then Some r else None) ≡ b
there_alone true r = refl
there_alone false r = refl

is_named-cons : (r : Row) (t : List Row) (n : List ℕ) → is_named (r ∷ t) n ≡ (bytes_eq r.name n || is_named t n)
is_named-cons r t n = is_named-append (r ∷ []) t n ∙ ap (λ b. b || is_named t n) (named_alone (bytes_eq r.name n) r)

is_there-cons : (r : Row) (t : List Row) (i : ItemId) → is_there (r ∷ t) i ≡ (same_id r.id i || is_there t i)
is_there-cons r t i = is_there-append (r ∷ []) t i ∙ ap (λ b. b || is_there t i) (there_alone (same_id r.id i) r)

abbrev times_named : List ℕ → List Row → ℕ
times_named n t = count_by (λ (r : Row). bytes_eq r.name n) t

named_counts : (t : List Row) (n : List ℕ) → is_named t n ≡ true → 1 ≤ times_named n t
named_counts [] n h = absurd cc
named_counts (r ∷ t) n h = ⊎_elim
    (λ yes. let one : one_if (bytes_eq r.name n) ≡ 1 = ap one_if yes in omega (arith, one, sum_by-cons (λ (x : Row). one_if (bytes_eq x.name n)) r t))
    (λ no. let later : is_named t n ≡ true = sym (is_named-cons r t n ∙ ap (λ b. b || is_named t n) no) ∙ h in
    omega (arith, named_counts t n later, sum_by-cons (λ (x : Row). one_if (bytes_eq x.name n)) r t))
    (true_or_false (bytes_eq r.name n))

used_counts : (k : ℕ) (t : List Row) → member k (used_ids t) ≡ true → 1 ≤ times_used k t
used_counts k t h = positive (times_used k t) (sym (member-count k (used_ids t)) ∙ h) where
  positive : (n : ℕ) → nat_lt 0 n ≡ true → 1 ≤ n
  positive n h = grind (arith, nat_tests)

never : (b : Bool) → (b ≡ true → ⊥) → b ≡ false
never true h = absurd (h refl)
never false h = refl

no_id : (o : Option ItemId) → is_some o ≡ false → o ≡ None
no_id None h = refl
no_id (Some i) h = absurd cc

no_row : (o : Option Row) → is_some o ≡ false → o ≡ None
no_row None h = refl
no_row (Some r) h = absurd cc

module _ (t u : List Row) (l : Lawful (t ++ u)) where
  names_apart : (n : List ℕ) → is_named u n ≡ true → is_named t n ≡ false
  names_apart n h = never (is_named t n) (λ both. absurd (omega (arith, l.names n, sum_by-append (λ (r : Row). one_if (bytes_eq r.name n)) t u, named_counts t n both, named_counts u n h)))

  ids_apart : (i : ItemId) → is_there u i ≡ true → is_there t i ≡ false
  ids_apart i h = never (is_there t i) (λ both. absurd (omega (arith, l.ids i, times-append i t u, is_there-times t i both, is_there-times u i h)))

  used_apart : (k : ℕ) → member k (used_ids u) ≡ true → member k (used_ids t) ≡ false
  used_apart k h = never (member k (used_ids t)) (λ both. absurd (omega (
    arith,
    l.used k,
    times_used-rows k (t ++ u),
    times_used-rows k t,
    times_used-rows k u,
    sum_by-append (λ (r : Row). count_by (λ x. x == k) (uses r)) t u,
    used_counts k t both,
    used_counts k u h,
  )))

  gone_if : {X : Type 0} (b : Bool) (x y : X) → (b ≡ true → y ≡ x) → (if b then x else y) ≡ y
  gone_if true x y h = sym (h refl)
  gone_if false x y h = refl

  -- the rows are not in the first table, so that their removal changes no answer
  pub unknown : without_rows u (answer_of t) ≡ answer_of t
  unknown = tells (without_rows u (answer_of t)) (answer_of t)
      (λ n. gone_if (is_named u n) None (id_named t n) (λ h. no_id (id_named t n) (names_apart n h)))
      (λ i. gone_if (is_there u i) None (place_in t i) (λ h. ap (option_map (λ (r : Row). place_under (is_device r) r.parent)) (no_row (row_of t i) (ids_apart i h))))
      (λ k. gone_if (member k (used_ids u)) false (member k (used_ids t)) (used_apart k))

-- ROWS THAT ARE APPENDED
one_more : (t : List Row) (r : Row) → is_named t r.name ≡ false → is_there t r.id ≡ false → with_row r (answer_of t) ≡ answer_of (t ++ r ∷ [])
one_more t r name id = tells (with_row r (answer_of t)) (answer_of (t ++ r ∷ [])) (λ n. sym (id_named-last t r n name)) (λ i. sym (place_in-last t r id i)) (λ k. sym (used-last t r k))

pub with_answer : (t u : List Row) → Distinct (t ++ u) → DistinctNames (t ++ u) → with_rows u (answer_of t) ≡ answer_of (t ++ u)
with_answer t [] ids names = ap answer_of (sym (append-nil t))
with_answer t (r ∷ u) ids names =
    let e : t ++ (r ∷ u) ≡ (t ++ r ∷ []) ++ u = sym (append_assoc t (r ∷ []) u) in
    let name : is_named t r.name ≡ false = never (is_named t r.name) (λ both. absurd (
    let here : is_named (r ∷ u) r.name ≡ true = is_named-cons r u r.name ∙ ap (λ b. b || is_named u r.name) (bytes_itself r.name) in
    omega (arith, names r.name, sum_by-append (λ (x : Row). one_if (bytes_eq x.name r.name)) t (r ∷ u), named_counts t r.name both, named_counts (r ∷ u) r.name here))) in
    let id : is_there t r.id ≡ false = never (is_there t r.id) (λ both. absurd (
    let here : is_there (r ∷ u) r.id ≡ true = is_there-cons r u r.id ∙ ap (λ b. b || is_there u r.id) (same_id_refl r.id) in
    omega (arith, ids r.id, times-append r.id t (r ∷ u), is_there-times t r.id both, is_there-times (r ∷ u) r.id here))) in
    ap (with_rows u) (one_more t r name id) ∙ with_answer (t ++ r ∷ []) u (subst Distinct e ids) (subst DistinctNames e names) ∙ ap answer_of (sym e)

-- A PART THAT IS REMOVED
swapped : (a b c : Bool) → (a || (b || c)) ≡ (b || (a || c))
swapped true true c = refl
swapped true false c = refl
swapped false b c = refl

named_reordered : (n : List ℕ) {t u : List Row} → IsReordered t u → is_named t n ≡ is_named u n
named_reordered n nothing = refl
named_reordered n (keep {x} {xs} {ys} p) = is_named-cons x xs n ∙ ap (λ b. bytes_eq x.name n || b) (named_reordered n p) ∙ sym (is_named-cons x ys n)
named_reordered n (exchange {x} {y} {xs}) =
    is_named-cons x (y ∷ xs) n ∙ ap (λ b. bytes_eq x.name n || b) (is_named-cons y xs n) ∙ swapped (bytes_eq x.name n) (bytes_eq y.name n) (is_named xs n)
    ∙ sym (is_named-cons y (x ∷ xs) n ∙ ap (λ b. bytes_eq y.name n || b) (is_named-cons x xs n))
named_reordered n (through p q) = named_reordered n p ∙ named_reordered n q

there_reordered : (i : ItemId) {t u : List Row} → IsReordered t u → is_there t i ≡ is_there u i
there_reordered i nothing = refl
there_reordered i (keep {x} {xs} {ys} p) = is_there-cons x xs i ∙ ap (λ b. same_id x.id i || b) (there_reordered i p) ∙ sym (is_there-cons x ys i)
there_reordered i (exchange {x} {y} {xs}) =
    is_there-cons x (y ∷ xs) i ∙ ap (λ b. same_id x.id i || b) (is_there-cons y xs i) ∙ swapped (same_id x.id i) (same_id y.id i) (is_there xs i)
    ∙ sym (is_there-cons y (x ∷ xs) i ∙ ap (λ b. same_id y.id i || b) (is_there-cons x xs i))
there_reordered i (through p q) = there_reordered i p ∙ there_reordered i q

root_id : (b : Bool) (r : Row) → (if b then record r { parent = None } else r).id ≡ r.id
root_id true r = refl
root_id false r = refl

root_name : (b : Bool) (r : Row) → (if b then record r { parent = None } else r).name ≡ r.name
root_name true r = refl
root_name false r = refl

root_uses : (b : Bool) (r : Row) → uses (if b then record r { parent = None } else r) ≡ uses r
root_uses true r = refl
root_uses false r = refl

taken : (w c n : ℕ) → w + c ≡ n → n ≤ 1 → nat_lt 0 w ≡ (if nat_lt 0 c then false else nat_lt 0 n)
taken w zero n e h = ap (nat_lt 0) (let same : w ≡ n = omega (arith, e) in same)
taken w (suc c) n e h = let none : w ≡ 0 = omega (arith, e, h) in ap (nat_lt 0) none ∙ sym (let some : nat_lt 0 (suc c) ≡ true = grind (arith, nat_tests) in ap (λ b. if b then false else nat_lt 0 n) some)

module _ (t u : List Row) (i : ItemId) (l : Lawful t) (same : Same u (part i t)) where
  abbrev leaves : ItemId → Bool
  leaves j = is_part t i j

  abbrev stays : ItemId → Bool
  stays j = not (is_part t i j)

  named_in_part : (n : List ℕ) → is_named u n ≡ is_some (kept_id leaves (id_named t n))
  named_in_part n =
      named_reordered n same.rows ∙ ap is_some (id_named-map (as_root i) (λ r. root_id (same_id r.id i) r) (λ r. root_name (same_id r.id i) r) (only leaves t) n ∙ id_named-only leaves t n l.names)

  name_stays : (o : Option ItemId) → (if is_some (kept_id leaves o) then None else o) ≡ kept_id stays o
  name_stays None = refl
  name_stays (Some j) = by_test (leaves j) where
    by_test : (b : Bool) → (if is_some (if b then Some j else None) then None else Some j) ≡ (if not b then Some j else None)
    by_test true = refl
    by_test false = refl

  kept_row : (f : Row → Row) (o : Option Row) → is_some (option_map f o) ≡ is_some o
  kept_row f None = refl
  kept_row f (Some r) = refl

  there_in_part : (j : ItemId) → is_there u j ≡ is_some (if leaves j then row_of t j else None)
  there_in_part j =
      there_reordered j same.rows ∙ ap is_some (row_of-map (as_root i) (λ r. root_id (same_id r.id i) r) (only leaves t) j) ∙ kept_row (as_root i) (row_of (only leaves t) j) ∙ ap is_some (row_of-only leaves t j)

  abbrev place : Option Row → Option Place
  place o = option_map (λ (r : Row). place_under (is_device r) r.parent) o

  place_stays : (b : Bool) (o : Option Row) → (if is_some (if b then o else None) then None else place o) ≡ place (if not b then o else None)
  place_stays true None = refl
  place_stays true (Some r) = refl
  place_stays false o = refl

  used_stays : (k : ℕ) → (if member k (used_ids u) then false else member k (used_ids t)) ≡ member k (used_ids (table_without i t))
  used_stays k =
      let own : Row → ℕ = λ r. count_by (λ x. x == k) (uses r) in
      let sum : times_used k (only stays t) + times_used k (only leaves t) ≡ times_used k t =
      omega (arith, times_used-rows k (only stays t), times_used-rows k (only leaves t), times_used-rows k t, sum_by-filter_both (λ (r : Row). leaves r.id) (λ (r : Row). stays r.id) (λ r. refl) own t) in
      let inside : member k (used_ids u) ≡ member k (used_ids (only leaves t)) = used-same u (part i t) same.rows k ∙ used-map (as_root i) (λ r. root_uses (same_id r.id i) r) (only leaves t) k in
      ap (λ b. if b then false else member k (used_ids t)) inside
      ∙ (λ z. if member-count k (used_ids (only leaves t)) z then false else member-count k (used_ids t) z)
      ∙ sym (taken (times_used k (only stays t)) (times_used k (only leaves t)) (times_used k t) sum (l.used k)) ∙ sym (member-count k (used_ids (only stays t)))

  pub without_answer : without_rows u (answer_of t) ≡ answer_of (table_without i t)
  without_answer = tells (without_rows u (answer_of t)) (answer_of (table_without i t))
      (λ n. ap (λ b. if b then None else id_named t n) (named_in_part n) ∙ name_stays (id_named t n) ∙ sym (id_named-only stays t n l.names))
      (λ j. ap (λ b. if b then None else place_in t j) (there_in_part j) ∙ place_stays (leaves j) (row_of t j) ∙ ap place (sym (row_of-only stays t j)))
      used_stays
