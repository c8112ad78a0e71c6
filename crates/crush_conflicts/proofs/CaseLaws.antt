-- The lost aspects of one more operator, and the operators of whom a value is kept.
use Rattle.std.proofs.Common.{◌≡◌, ℕ, ◌+◌, ◌<◌, Bool, true, false, List, [], ◌∷◌, ◌++◌, length, take, get_or, map, ap, sym, refl, ◌∙◌}
use Rattle.std.specs.Prelude.{◌||◌}
use Rattle.std.specs.List.{list_any}
use Rattle.std.proofs.lemmas.List.{map_push, take_more}
use Rattle.std.proofs.lemmas.List.Folds.{list_any-append}
use Rattle.crush_model.specs.Table.{Row}
use Rattle.crush_conflicts.specs.Aspects.{of_either}
use Rattle.crush_conflicts.specs.Cases.{CaseData, FoundData, lost_among, lost_of}
use Rattle.crush_conflicts.specs.CasesSeen.{found_data}
use Rattle.crush_conflicts.specs.declared.cases.Found.{Found}

or_false : (b : Bool) → (b || false) ≡ b
or_false true = refl
or_false false = refl

any_push : {X : Type 0} (p : X → Bool) (xs : List X) (x : X) → list_any p (xs ++ x ∷ []) ≡ (list_any p xs || p x)
any_push p xs x = list_any-append p xs (x ∷ []) ∙ ap (λ b. list_any p xs || b) (or_false (p x))

-- the data of one more
pub data_more : {A : _} (xs : List (Found A)) (i : ℕ) (x : Found A) → i < length xs → x ≡ get_or xs i x → map found_data (take (i + 1) xs) ≡ map found_data (take i xs) ++ found_data x ∷ []
data_more xs i x lt is = ap (map found_data) (take_more xs i x lt ∙ ap (λ y. take i xs ++ y ∷ []) (sym is)) ∙ map_push found_data (take i xs) x

pub any_more : {A : _} (p : FoundData → Bool) (xs : List (Found A)) (i : ℕ) (x : Found A) → i < length xs → x ≡ get_or xs i x → list_any p (map found_data (take (i + 1) xs)) ≡ (list_any p (map found_data (take i xs)) || p (found_data x))
any_more p xs i x lt is = ap (list_any p) (data_more xs i x lt is) ∙ any_push p (map found_data (take i xs)) (found_data x)

pub lost_more : {A : _} (t : List Row) (c : CaseData) (xs : List (Found A)) (i : ℕ) (x : Found A) → i < length xs → x ≡ get_or xs i x
    → lost_among t c (map found_data (take (i + 1) xs)) ≡ of_either (lost_among t c (map found_data (take i xs))) (lost_of t c (found_data x))
lost_more t c xs i x lt is = λ j. record {
  presence = any_more (λ y. (lost_of t c y).presence) xs i x lt is j;
  kind = any_more (λ y. (lost_of t c y).kind) xs i x lt is j;
  place = any_more (λ y. (lost_of t c y).place) xs i x lt is j;
  weight = any_more (λ y. (lost_of t c y).weight) xs i x lt is j;
  name = any_more (λ y. (lost_of t c y).name) xs i x lt is j;
  class = any_more (λ y. (lost_of t c y).class) xs i x lt is j;
}
