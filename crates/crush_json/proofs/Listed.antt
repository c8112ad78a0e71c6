-- The tokens of an array are those of its values, one value after the other.
use Rattle.std.proofs.Common.{◌≡◌, ℕ, ◌+◌, ◌<◌, Result, Ok, Err, List, [], ◌∷◌, ◌++◌, length, get_or, take, map, refl, sym, ap, ◌∙◌, append_assoc, append-nil}
use Rattle.std.specs.Prelude.{OnOk, flat_map}
use Rattle.std.proofs.lemmas.List.{take_more}
use Rattle.std.proofs.lemmas.List.Concat.{flat_map-append}
use Rattle.std.proofs.lemmas.List.Folds.{flat_map-map}
use Rattle.json.specs.Print.{print}
use Rattle.json.specs.Token.{Token, begin_array, end_array}
use Rattle.json.specs.Tree.{items_tokens}
use Rattle.serde_json.specs.Data.{Data}
use Rattle.serde_json.specs.View.{items_of}
use Rattle.serde_json.specs.Written.{items_outline, compact_text}
use Rattle.serde_json.proofs.Texts.{print-outline}
use Rattle.crush_json.specs.Tokens.{tokens_of, tokens_of_all}
use Rattle.crush_json.specs.Values.{list}

-- the text that is printed for the tokens of a value is the compact text of the value
pub printed : (d : Data) → print (tokens_of d) ≡ compact_text d
printed d = print-outline d

-- the tokens of the values of an array, and the closing bracket
items_listed : (ds : List Data) → items_tokens (items_outline (items_of ds)) ≡ tokens_of_all ds ++ end_array ∷ []
items_listed [] = refl
items_listed (d ∷ ds) = ap (λ (l : List Token). tokens_of d ++ l) (items_listed ds) ∙ sym (append_assoc (tokens_of d) (tokens_of_all ds) (end_array ∷ []))

pub listed : (ds : List Data) → tokens_of (list ds) ≡ begin_array ∷ (tokens_of_all ds ++ end_array ∷ [])
listed ds = ap (λ (l : List Token). begin_array ∷ l) (items_listed ds)

regroup : (old m : List Token) → ((old ++ begin_array ∷ []) ++ m) ++ end_array ∷ [] ≡ old ++ (begin_array ∷ (m ++ end_array ∷ []))
regroup old m = simp append_assoc

-- an array that was opened, got its values, and was closed
pub array_done : {Y E : Type 0} (ds : List Data) (r : Result Y E) (old one two three : List Token) → one ≡ old ++ begin_array ∷ [] → two ≡ one ++ tokens_of_all ds → OnOk r (three ≡ two ++ end_array ∷ [])
    → OnOk r (three ≡ old ++ tokens_of (list ds))
array_done ds (Ok y) old one two three a b c =
    c ∙ ap (λ (l : List Token). l ++ end_array ∷ []) (b ∙ ap (λ (l : List Token). l ++ tokens_of_all ds) a) ∙ regroup old (tokens_of_all ds) ∙ ap (λ (l : List Token). old ++ l) (sym (listed ds))
array_done ds (Err e) old one two three a b c = tt

-- the tokens of values that are made of the elements of a list: one value for each element, or several values for each element
pub mapped : {X : Type 0} (f : X → Data) (xs : List X) → flat_map (λ x. tokens_of (f x)) xs ≡ tokens_of_all (map f xs)
mapped f xs = sym (flat_map-map tokens_of f xs)

pub mapped_seen : {X Y : Type 0} (see : X → Y) (f : Y → Data) (xs : List X) → flat_map (λ x. tokens_of (f (see x))) xs ≡ tokens_of_all (map f (map see xs))
mapped_seen see f [] = refl
mapped_seen see f (x ∷ xs) = ap (λ (l : List Token). tokens_of (f (see x)) ++ l) (mapped_seen see f xs)

pub flattened : {X : Type 0} (f : X → List Data) (xs : List X) → flat_map (λ x. tokens_of_all (f x)) xs ≡ tokens_of_all (flat_map f xs)
flattened f [] = refl
flattened f (x ∷ xs) = ap (λ (l : List Token). tokens_of_all (f x) ++ l) (flattened f xs) ∙ sym (flat_map-append tokens_of (f x) (flat_map f xs))

pub flattened_seen : {X Y : Type 0} (see : X → Y) (f : Y → List Data) (xs : List X) → flat_map (λ x. tokens_of_all (f (see x))) xs ≡ tokens_of_all (flat_map f (map see xs))
flattened_seen see f xs = flattened (λ x. f (see x)) xs ∙ ap tokens_of_all (sym (flat_map-map f see xs))

-- what comes after the tokens so far, in two parts
pub one_more : {X : Type 0} (old now new first next all : List X) → now ≡ old ++ first → new ≡ now ++ next → all ≡ first ++ next → new ≡ old ++ all
one_more old now new first next all before after is = after ∙ ap (λ l. l ++ next) before ∙ append_assoc old first next ∙ ap (λ l. old ++ l) (sym is)

-- the tokens of the first elements of a list, and of one more element
pub more : {X Z : Type 0} (f : X → List Z) (xs : List X) (i : ℕ) (x : X) → i < length xs → x ≡ get_or xs i x → flat_map f (take (i + 1) xs) ≡ flat_map f (take i xs) ++ f x
more f xs i x lt is =
    ap (flat_map f) (take_more xs i x lt ∙ ap (λ y. take i xs ++ y ∷ []) (sym is)) ∙ flat_map-append f (take i xs) (x ∷ []) ∙ ap (λ l. flat_map f (take i xs) ++ l) (append-nil (f x))
