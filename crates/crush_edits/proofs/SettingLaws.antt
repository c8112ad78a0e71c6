-- The parts of a setting as the code stores them, and as the lists that contracts see.
use Rattle.std.proofs.Common.{◌≡◌, ℕ, Bool, true, false, cond, List, [], ◌∷◌, ◌++◌, ◌||◌, nat_eq, refl, ap, sym, subst, ◌∙◌, true≢false, arith, length, ◌<◌}
use Rattle.std.proofs.lemmas.List.{append_assoc, length-append, map-append}
use Rattle.std.specs.Cmp.{IsEquivalence, nat_eq_equiv}
use Rattle.std.specs.Cmp.Lexicographic.{nat_list_eq_equiv}
use Rattle.std.specs.List.{AllByRecursion, IsDistinct, list_any}
use Rattle.std.specs.Map.{keys_of, lookup}
use Rattle.std.specs.Option.{IsSome, is_some, option_map, option_to_list}
use Rattle.std.specs.Prelude.{Option, Some, None, if◌then◌else◌, find, map, bytes_eq, ◌==◌}
use Rattle.indexmap.specs.IndexMap.{IndexMap, insert_entry}
use Rattle.indexmap.proofs.CallerLemmas.{insert_entry-new}
use Rattle.crush_model.proofs.Climbs.{eqb_turned}
use Rattle.crush_edits.specs.Setting.{KindData, TunableData, first_name}
use Rattle.crush_edits.specs.SettingSeen.{kind_data, tunable_data}

-- the name of a type by its number
pub name_got : (n : ℕ) (es : List (ℕ × List ℕ)) → lookup (λ k. n == k) es ≡ first_name (map kind_data es) n
name_got n [] = refl
name_got n (e ∷ es) = (λ j. cond (eqb_turned n e.0 j) (Some e.1) (name_got n es j)) ∙ by (e.0 == n)
  where
    by : (b : Bool) → cond b (Some e.1) (option_map (λ (k : KindData). k.name) (find (λ (k : KindData). k.number == n) (map kind_data es))) ≡ option_map (λ (k : KindData). k.name) (if b then Some (kind_data e) else find (λ (k : KindData). k.number == n) (map kind_data es))
    by true = refl
    by false = refl

-- whether a tunable has a name
pub tunable_got : (n : List ℕ) (es : List (List ℕ × ℕ)) → is_some (lookup (bytes_eq n) es) ≡ list_any (λ (x : TunableData). bytes_eq x.name n) (map tunable_data es)
tunable_got n [] = refl
tunable_got n (e ∷ es) = (λ j. is_some (cond (nat_list_eq_equiv.symm n e.0 j) (Some e.1) (lookup (bytes_eq n) es))) ∙ by (bytes_eq e.0 n) (tunable_got n es)
  where
    by : (b : Bool) → is_some (lookup (bytes_eq n) es) ≡ list_any (λ (x : TunableData). bytes_eq x.name n) (map tunable_data es)
        → is_some (cond b (Some e.1) (lookup (bytes_eq n) es)) ≡ b || list_any (λ (x : TunableData). bytes_eq x.name n) (map tunable_data es)
    by true rest = refl
    by false rest = rest

pub not_got : {X : Type 0} (o : Option X) → is_some o ≡ false → o ≡ None
not_got None e = refl
not_got (Some x) e = absurd (true≢false e)

-- a map is copied entry by entry, since none of its keys is among those before it
module _ {K X : Type 0} (eq : K → K → Bool) (laws : IsEquivalence eq) where
  pub new_key : (done rest : List (K × X)) (k : K) (v : X) → IsDistinct eq (keys_of (done ++ (k, v) ∷ rest)) → lookup (eq k) done ≡ None
  unfolding IsDistinct
  new_key [] rest k v h = refl
  new_key (e ∷ done) rest k v h = λ j. cond ((laws.symm k e.0 ∙ apart done h.0) j) (Some e.1) (new_key done rest k v h.1 j)
    where
      apart : (es : List (K × X)) → AllByRecursion (λ y. eq e.0 y ≡ false) (keys_of (es ++ (k, v) ∷ rest)) → eq e.0 k ≡ false
      apart [] p = p.0
      apart (x ∷ es) p = apart es p.1

  pub entry_copied : {S : Type 0} (m n : IndexMap K X S) (k : K) (v : X) (rest all : List (K × X)) → IsDistinct eq (keys_of all) → m.entries ++ (k, v) ∷ rest ≡ all → n.entries ≡ insert_entry eq m.entries k v → n.entries ++ rest ≡ all
  entry_copied m n k v rest all distinct so_far e =
      ap (λ es. es ++ rest) (e ∙ insert_entry-new eq m k v (new_key m.entries rest k v (subst (λ es. IsDistinct eq (keys_of es)) (sym so_far) distinct)))
      ∙ append_assoc m.entries ((k, v) ∷ []) rest ∙ so_far

-- mapping a list with one element more appends the image of that element
pub map-push : {X Y : Type 0} (f : X → Y) (xs : List X) (x : X) → map f (xs ++ x ∷ []) ≡ map f xs ++ f x ∷ []
map-push f [] x = refl
map-push f (y ∷ xs) x = ap (λ z. f y ∷ z) (map-push f xs x)

-- inserting a type with a new number appends it
pub kind_pushed : {S : Type 0} (m n : IndexMap ℕ (List ℕ) S) (number : ℕ) (name : List ℕ) → first_name (map kind_data m.entries) number ≡ None
    → n.entries ≡ insert_entry nat_eq m.entries number name → map kind_data n.entries ≡ map kind_data m.entries ++ kind_data (number, name) ∷ []
kind_pushed m n number name none e =
    ap (map kind_data) (e ∙ insert_entry-new nat_eq m number name (name_got number m.entries ∙ none)) ∙ map-push kind_data m.entries (number, name)

-- types as entries from numbers to names, in which no number occurs twice
abbrev kind_entry : KindData → ℕ × List ℕ
kind_entry k = (k.number, k.name)

seen_again : (kinds : List KindData) → map kind_data (map kind_entry kinds) ≡ kinds
seen_again [] = refl
seen_again (k ∷ kinds) = ap (λ ks. k ∷ ks) (seen_again kinds)

kept_again : (es : List (ℕ × List ℕ)) → map kind_entry (map kind_data es) ≡ es
kept_again [] = refl
kept_again (e ∷ es) = ap (λ xs. e ∷ xs) (kept_again es)

pub new_number : (es : List (ℕ × List ℕ)) → IsDistinct nat_eq (keys_of es) → (done rest : List KindData) (k : KindData) → done ++ k ∷ rest ≡ map kind_data es → first_name done k.number ≡ None
new_number es distinct done rest k e =
    let kept : map kind_entry done ++ kind_entry k ∷ map kind_entry rest ≡ es = sym (map-append kind_entry done (k ∷ rest)) ∙ ap (map kind_entry) e ∙ kept_again es in
    ap (λ ks. first_name ks k.number) (sym (seen_again done)) ∙ sym (name_got k.number (map kind_entry done))
    ∙ new_key nat_eq nat_eq_equiv (map kind_entry done) (map kind_entry rest) k.number k.name (subst (λ xs. IsDistinct nat_eq (keys_of xs)) (sym kept) distinct)

-- popping removes the element that was pushed last
abbrev front : {X : Type 0} → List X → List X
front [] = []
front (x ∷ []) = []
front (x ∷ (y ∷ ys)) = x ∷ front (y ∷ ys)

front-push : {X : Type 0} (xs : List X) (x : X) → front (xs ++ x ∷ []) ≡ xs
front-push [] x = refl
front-push (y ∷ []) x = refl
front-push (y ∷ (z ∷ zs)) x = ap (λ l. y ∷ l) (front-push (z ∷ zs) x)

pub popped : {X : Type 0} (xs ys : List X) (x : X) (o : Option X) → xs ++ x ∷ [] ≡ ys ++ option_to_list o → IsSome o → ys ≡ xs
popped xs ys x None e some = absurd (true≢false (sym some))
popped xs ys x (Some y) e some = sym (front-push ys y) ∙ ap front (sym e) ∙ front-push xs x

pub some_left : {X : Type 0} (xs : List X) (x : X) → 0 < length (xs ++ x ∷ [])
some_left xs x = omega (arith, length-append xs (x ∷ []))
