-- Which ids are in use after each change of a table.
use Rattle.std.proofs.Common.{◌≡◌, ℕ, zero, suc, ◌+◌, ◌≤◌, Bool, true, false, List, [], ◌∷◌, ◌++◌, ap, sym, ◌∙◌, refl, arith, append-nil}
use Rattle.std.specs.Prelude.{◌==◌, ◌||◌, if◌then◌else◌, Some, map, nat_lt}
use Rattle.std.specs.List.{count_by}
use Rattle.std.specs.Option.{option_map}
use Rattle.std.proofs.lemmas.Bool.Decides.{nat_tests}
use Rattle.std.proofs.lemmas.List.Sums.{sum_by-append, sum_by-cons}
use Rattle.crush_units.specs.declared.id.ItemId.{ItemId}
use Rattle.crush_model.specs.Table.{Row, row_of, member, used_ids}
use Rattle.crush_model.specs.Lawful.{Lawful}
use Rattle.crush_model.specs.Columns.{set_weights, set_name, without_row, exchange_id, exchange_parents}
use Rattle.crush_model.proofs.Changes.{with_weight, with_name}
use Rattle.crush_model.proofs.Columns.{times_used-map}
use Rattle.crush_model.proofs.Counted.{used_ids-append}
use Rattle.crush_model.proofs.Moved.{last_row}
use Rattle.crush_model.proofs.Renamed.{name_uses}
use Rattle.crush_model.proofs.Same.{uses, times_used, times_used-rows, times_used-same, member-count}

either : (b c d : Bool) → (b || (c || d)) ≡ ((b || c) || d)
either true c d = refl
either false c d = refl

pub member-append : (k : ℕ) (xs ys : List ℕ) → member k (xs ++ ys) ≡ (member k xs || member k ys)
member-append k [] ys = refl
member-append k (x ∷ xs) ys = ap (λ b. (x == k) || b) (member-append k xs ys) ∙ either (x == k) (member k xs) (member k ys)

-- rows that are appended add the ids that they use
pub used-append : (t u : List Row) (k : ℕ) → member k (used_ids (t ++ u)) ≡ (member k (used_ids t) || member k (used_ids u))
used-append t u k = ap (member k) (used_ids-append t u) ∙ member-append k (used_ids t) (used_ids u)

pub used-last : (t : List Row) (r : Row) (k : ℕ) → member k (used_ids (t ++ r ∷ [])) ≡ (member k (used_ids t) || member k (uses r))
used-last t r k = used-append t (r ∷ []) k ∙ ap (λ xs. member k (used_ids t) || member k xs) (append-nil (uses r))

-- a row that is removed takes away the ids that it uses
times_used-last : (t : List Row) (r : Row) (k : ℕ) → times_used k (t ++ r ∷ []) ≡ times_used k t + count_by (λ u. u == k) (uses r)
times_used-last t r k =
    let own : Row → ℕ = λ x. count_by (λ u. u == k) (uses x) in
    omega (arith, times_used-rows k (t ++ r ∷ []), times_used-rows k t, sum_by-append own t (r ∷ []), sum_by-cons own r [])

taken : (w c n : ℕ) → w + c ≡ n → n ≤ 1 → nat_lt 0 w ≡ (if nat_lt 0 c then false else nat_lt 0 n)
taken w zero n e h = ap (nat_lt 0) (let same : w ≡ n = omega (arith, e) in same)
taken w (suc c) n e h = let none : w ≡ 0 = omega (arith, e, h) in ap (nat_lt 0) none ∙ sym (let some : nat_lt 0 (suc c) ≡ true = grind (arith, nat_tests) in ap (λ b. if b then false else nat_lt 0 n) some)

pub used-without_row : (i : ItemId) (t : List Row) (r : Row) (k : ℕ) → Lawful t → row_of t i ≡ Some r → member k (used_ids (without_row i t)) ≡ (if member k (uses r) then false else member k (used_ids t))
used-without_row i t r k l e =
    let own : ℕ = count_by (λ u. u == k) (uses r) in
    let sum : times_used k (without_row i t) + own ≡ times_used k t = sym (times_used-last (without_row i t) r k) ∙ times_used-same (without_row i t ++ r ∷ []) t (last_row i t r (l.ids i) e) k in
    member-count k (used_ids (without_row i t)) ∙ taken (times_used k (without_row i t)) own (times_used k t) sum (l.used k)
    ∙ sym ((λ z. if member-count k (uses r) z then false else member-count k (used_ids t) z))

-- a change of columns other than id and class ids
pub used-map : (f : Row → Row) → ((r : Row) → uses (f r) ≡ uses r) → (t : List Row) (k : ℕ) → member k (used_ids (map f t)) ≡ member k (used_ids t)
used-map f same t k = member-count k (used_ids (map f t)) ∙ ap (nat_lt 0) (times_used-map f same k t) ∙ sym (member-count k (used_ids t))

weight_uses : (b : Bool) (w : ℕ) (r : Row) → uses (if b then record r { weight = w } else r) ≡ uses r
weight_uses true w r = refl
weight_uses false w r = refl

pub used-set_weights : (which : Row → Bool) (w : ℕ) (t : List Row) (k : ℕ) → member k (used_ids (set_weights which w t)) ≡ member k (used_ids t)
used-set_weights which w t k = used-map (with_weight which w) (λ r. weight_uses (which r) w r) t k

pub used-set_name : (i : ItemId) (name : List ℕ) (t : List Row) (k : ℕ) → member k (used_ids (set_name i name t)) ≡ member k (used_ids t)
used-set_name i name t k = used-map (with_name i name) (name_uses i name) t k

pub used-exchange_parents : (a b : ℕ) (t : List Row) (k : ℕ) → member k (used_ids (exchange_parents a b t)) ≡ member k (used_ids t)
used-exchange_parents a b t k = used-map (λ r. record r { parent = option_map (exchange_id a b) r.parent }) (λ r. refl) t k
