-- How a loop finds the first name for which a test holds.
use Rattle.std.proofs.Common.{◌≡◌, ℕ, suc, ◌+◌, ◌<◌, ◌≤◌, Bool, true, false, List, ◌∷◌, length, drop, get_or, ap, sym, ◌∙◌, refl, arith}
use Rattle.std.specs.Prelude.{Option, Some, None, not, if◌then◌else◌, is_some, is_none}
use Rattle.std.proofs.Math.Seq.{drop-cons}
use Rattle.std.proofs.lemmas.List.{drop_all}
use Rattle.crush_model.specs.Table.{Row, is_named}
use Rattle.crush_edits.specs.declared.location.Pair.{Pair}
use Rattle.crush_apply.specs.declared.route.stops.Stop.{Stop}
use Rattle.crush_apply.specs.Culprit.{first_name, end_name}
use Rattle.crush_apply.specs.Stopped.{pair_name, stops_data}
use Rattle.crush_apply.proofs.Ends.{stops_at}

next_of : (l : List Pair) (k : ℕ) (p : Pair) → k < length l → p ≡ get_or l k p → drop k l ≡ p ∷ drop (k + 1) l
next_of l k p h is =
    let next : suc k ≡ k + 1 = omega arith in
    drop-cons l k p h ∙ (λ j. sym is j ∷ drop (next j) l)

-- among pairs: either the test holds for the next pair, or the pairs after it decide
module _ (test : Pair → List Pair → Bool) (name : Pair → List ℕ) (l : List Pair) (k : ℕ) (p : Pair) (h : k < length l) (is : p ≡ get_or l k p) where
  pub name_here : test p (drop (k + 1) l) ≡ true → first_name test name (drop k l) ≡ Some (name p)
  name_here e = ap (first_name test name) (next_of l k p h is) ∙ ap (λ b. if b then Some (name p) else first_name test name (drop (k + 1) l)) e

  pub name_later : test p (drop (k + 1) l) ≡ false → first_name test name (drop k l) ≡ first_name test name (drop (k + 1) l)
  name_later e = ap (first_name test name) (next_of l k p h is) ∙ ap (λ b. if b then Some (name p) else first_name test name (drop (k + 1) l)) e

-- whether a value is missing, from the result of a call
pub none_told : {X : Type 0} (o : Option X) (b : Bool) → is_some o ≡ not b → is_none o ≡ b
none_told None true e = refl
none_told None false e = absurd cc
none_told (Some x) true e = absurd cc
none_told (Some x) false e = refl

-- among stops
pub end_here : (t : List Row) (l : List Pair) (xs : List Stop) (k : ℕ) (x : Stop) → k < length xs → x ≡ get_or xs k x → is_named t (pair_name l x.pair) ≡ true → end_name t (stops_data l (drop k xs)) ≡ Some (pair_name l x.pair)
end_here t l xs k x h e named = ap (end_name t) (stops_at l xs k x h e) ∙ rw named refl

pub end_later : (t : List Row) (l : List Pair) (xs : List Stop) (k : ℕ) (x : Stop) → k < length xs → x ≡ get_or xs k x → is_named t (pair_name l x.pair) ≡ false → end_name t (stops_data l (drop k xs)) ≡ end_name t (stops_data l (drop (k + 1) xs))
end_later t l xs k x h e named = ap (end_name t) (stops_at l xs k x h e) ∙ rw named refl

pub end_nowhere : (t : List Row) (l : List Pair) (xs : List Stop) (k : ℕ) → length xs ≤ k → end_name t (stops_data l (drop k xs)) ≡ None
end_nowhere t l xs k le = ap (λ zs. end_name t (stops_data l zs)) (drop_all k xs le)
