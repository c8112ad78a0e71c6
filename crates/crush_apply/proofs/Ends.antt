-- The loop that looks for the stop that ends the route. There are three cases: the next stop ends the route, the next stop doesn't end it, or no stop is left.
use Rattle.std.proofs.Common.{◌≡◌, ℕ, suc, ◌+◌, ◌<◌, ◌≤◌, Bool, true, false, List, [], ◌∷◌, Option, length, take, drop, get_or, ap, sym, ◌∙◌, refl, arith}
use Rattle.std.proofs.Math.Seq.{drop-cons}
use Rattle.std.proofs.lemmas.List.{drop_all}
use Rattle.std.specs.Prelude.{Some, None, ◌==◌, is_some, not, option_and_then}
use Rattle.std.specs.List.{prefix_len}
use Rattle.crush_units.specs.declared.id.ItemId.{ItemId}
use Rattle.crush_units.specs.declared.id.ItemId.TheVariants.{Bucket}
use Rattle.crush_model.specs.Table.{Row, is_named, id_named, kind_of}
use Rattle.crush_edits.specs.declared.location.Pair.{Pair}
use Rattle.crush_edits.specs.declared.refusal.Refusal.{Refusal}
use Rattle.crush_edits.specs.declared.refusal.Refusal.TheVariants.{NotABucket, WrongType}
use Rattle.crush_edits.specs.Answer.{first_refusal, is_a_device, meets}
use Rattle.crush_edits.specs.Located.{end_tests}
use Rattle.crush_edits.specs.Stops.{StopData, is_fresh, fresh_stops, end_stop, number_of}
use Rattle.crush_apply.specs.declared.route.stops.Stop.{Stop}
use Rattle.crush_apply.specs.Stopped.{pair_name, stop_data, stops_data}
use Rattle.crush_apply.specs.Destination.{end_item_tests, EndsAt}

pub stops_at : (l : List Pair) (xs : List Stop) (k : ℕ) (x : Stop) → k < length xs → x ≡ get_or xs k x → stops_data l (drop k xs) ≡ stop_data l x ∷ stops_data l (drop (k + 1) xs)
stops_at l xs k x h e =
    let next : suc k ≡ k + 1 = omega arith in
    ap (stops_data l) (drop-cons xs k x h) ∙ (λ j. stop_data l (sym e j) ∷ stops_data l (drop (next j) xs))

-- the table has the name of a stop if and only if the hierarchy finds an item by it
pub found : (t : List Row) (m n : List ℕ) (o : Option ItemId) (b : Bool) → m ≡ n → o ≡ id_named t m → b ≡ is_some o → is_named t n ≡ b
found t m n o b same is told = ap (is_named t) (sym same) ∙ ap is_some (sym is) ∙ sym told

one_taken : {X : Type 0} (x : X) (xs : List X) (n : ℕ) → length (take (1 + n) (x ∷ xs)) ≡ 1 + length (take n xs)
one_taken x xs n =
    let next : 1 + n ≡ suc n = omega arith in
    let one : length (x ∷ take n xs) ≡ 1 + length (take n xs) = omega arith in
    ap (λ m. length (take m (x ∷ xs))) next ∙ one

-- no stop is new if the table has the name of the next one
pub fresh_here : (t : List Row) (l : List Pair) (xs : List Stop) (k : ℕ) (x : Stop) → k < length xs → x ≡ get_or xs k x → is_named t (pair_name l x.pair) ≡ true → length (fresh_stops t (stops_data l (drop k xs))) ≡ 0
fresh_here t l xs k x h e named = ap (λ ps. length (fresh_stops t ps)) (stops_at l xs k x h e) ∙ rw named refl

pub fresh_later : (t : List Row) (l : List Pair) (xs : List Stop) (k : ℕ) (x : Stop) → k < length xs → x ≡ get_or xs k x → is_named t (pair_name l x.pair) ≡ false → length (fresh_stops t (stops_data l (drop k xs))) ≡ 1 + length (fresh_stops t (stops_data l (drop (k + 1) xs)))
fresh_later t l xs k x h e named = ap (λ ps. length (fresh_stops t ps)) (stops_at l xs k x h e) ∙ rw named (one_taken (stop_data l x) (stops_data l (drop (k + 1) xs)) (prefix_len (is_fresh t) (stops_data l (drop (k + 1) xs))))

pub fresh_end : (t : List Row) (l : List Pair) (xs : List Stop) (k : ℕ) → length xs ≤ k → length (fresh_stops t (stops_data l (drop k xs))) ≡ 0
fresh_end t l xs k le = ap (λ zs. length (fresh_stops t (stops_data l zs))) (drop_all k xs le)

-- THE INVARIANT of the loop: the stop that ends the route is among the stops that are left, and the stops that need a new bucket are the stops so far and the stops that need one among those that are left
pub record Left (t : List Row) (l : List Pair) (xs : List Stop) (k : ℕ) : Type 0 where
  pub fresh : length (fresh_stops t (stops_data l xs)) ≡ k + length (fresh_stops t (stops_data l (drop k xs)))
  pub end : end_stop t (stops_data l xs) ≡ end_stop t (stops_data l (drop k xs))

pub left_later : (t : List Row) (l : List Pair) (xs : List Stop) (k : ℕ) (x : Stop) → k < length xs → x ≡ get_or xs k x → is_named t (pair_name l x.pair) ≡ false → Left t l xs k → Left t l xs (k + 1)
left_later t l xs k x h e named left = record {
  fresh = omega (arith, left.fresh, fresh_later t l xs k x h e named);
  end = left.end ∙ ap (end_stop t) (stops_at l xs k x h e) ∙ rw named refl;
}

-- the tests of the end of a route, from the stop that ends it
abbrev tests_at : List Row → Option StopData → List (Refusal × Bool)
tests_at t o = (NotABucket, is_a_device (option_and_then (λ (p : StopData). id_named t p.name) o)) ∷ ((WrongType, meets (λ (p : StopData). meets (λ i. meets (λ k. not (k == p.kind)) (kind_of t i)) (id_named t p.name)) o) ∷ [])

-- the table has the name of the next stop
module _ (t : List Row) (l : List Pair) (xs : List Stop) (k : ℕ) (x : Stop) (i : ItemId) (h : k < length xs) (e : x ≡ get_or xs k x) (is : id_named t (pair_name l x.pair) ≡ Some i) (left : Left t l xs k) where
  named : is_named t (pair_name l x.pair) ≡ true
  named = ap is_some is

  ends : end_stop t (stops_data l xs) ≡ Some (stop_data l x)
  ends = left.end ∙ ap (end_stop t) (stops_at l xs k x h e) ∙ rw named refl

  pub tests_here : end_tests t (stops_data l xs) ≡ end_item_tests t x.kind i
  tests_here = ap (tests_at t) ends ∙ rw is refl

  pub ends_here : (b : ℕ) → i ≡ Bucket b → first_refusal (end_item_tests t x.kind (Bucket b)) ≡ None → EndsAt t (stops_data l xs) k (Some b)
  ends_here b same passes = record {
    fresh = omega (arith, left.fresh, fresh_here t l xs k x h e named);
    receiver = sym (ap (λ o. option_and_then number_of (option_and_then (λ (p : StopData). id_named t p.name) o)) ends ∙ ap (option_and_then number_of) is ∙ ap number_of same);
    passes = ap first_refusal tests_here ∙ ap (λ j. first_refusal (end_item_tests t x.kind j)) same ∙ passes;
  }

-- no stop is left
pub ends_nowhere : (t : List Row) (l : List Pair) (xs : List Stop) (k : ℕ) → k ≡ length xs → Left t l xs k → EndsAt t (stops_data l xs) (length xs) None
ends_nowhere t l xs k all left =
    let le : length xs ≤ k = omega arith in
    let none : end_stop t (stops_data l xs) ≡ None = left.end ∙ ap (λ zs. end_stop t (stops_data l zs)) (drop_all k xs le) in
    record {
      fresh = omega (arith, left.fresh, fresh_end t l xs k le);
      receiver = sym (ap (λ o. option_and_then number_of (option_and_then (λ (p : StopData). id_named t p.name) o)) none);
      passes = ap (λ o. first_refusal (tests_at t o)) none;
    }
