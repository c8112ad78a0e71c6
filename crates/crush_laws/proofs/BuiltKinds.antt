-- Proves that the printed lines of the types build the setting with its types in the order of their numbers.
use Rattle.std.proofs.Common.{◌≡◌, ℕ, ◌<◌, ◌≤◌, ◌^◌, Bool, true, false, List, [], ◌∷◌, ◌++◌, length, Some, refl, sym, ap, subst, ◌∙◌, arith, eq-eqb}
use Rattle.std.proofs.lemmas.Bool.{or_parts}
use Rattle.std.proofs.lemmas.List.Elements.{All-head, All-tail}
use Rattle.std.proofs.lemmas.List.Folds.{flat_map-map}
use Rattle.std.specs.Prelude.{All, map, flat_map, find, nat_le, bytes_eq, unwrap_or, ◌==◌, if◌then◌else◌}
use Rattle.std.specs.List.{count_by, list_any}
use Rattle.std.specs.Option.{option_map}
use Rattle.crush_units.specs.declared.limits.TheConstants.{MOST_TYPES}
use Rattle.crush_model.specs.Reordered.{IsReordered}
use Rattle.crush_model.specs.Table.{Row}
use Rattle.crush_model.proofs.Reorder.{reordered-refl, reordered-count, reordered-length, reordered-All, reordered-find, reordered-map}
use Rattle.crush_model.proofs.Tested.{bytes_itself}
use Rattle.crush_edits.specs.Setting.{KindData, TunableData, SettingData, kind_number}
use Rattle.crush_edits.specs.Fits.{IsKind, IsSetting}
use Rattle.crush_print.specs.MapText.{put_in, ascending, kind_numbers, kind_text}
use Rattle.crush_print.proofs.PrintedLines.{kind_words}
use Rattle.crush_text.specs.Form.{first, at}
use Rattle.crush_text.specs.Flow.{State, between}
use Rattle.crush_text.specs.Document.{IsMap}
use Rattle.crush_laws.specs.ReadingBack.{printed_kind, in_order}
use Rattle.crush_laws.proofs.Lawful.{map_with_kind}
use Rattle.crush_laws.proofs.BuiltLines.{Goes, kind_goes}
use Rattle.crush_laws.proofs.BuiltEach.{quiet, quiet_lawful, Led, EachLeads, each_goes, new_at, has_room, shorter, All-at, All-split}

-- NUMBERS IN ORDER: sorting a list of numbers keeps the same numbers
put_reordered : (n : ℕ) (xs : List ℕ) → IsReordered (n ∷ xs) (put_in n xs)
put_reordered n [] = reordered-refl (n ∷ [])
put_reordered n (x ∷ xs) = by_test (nat_le n x) (put_reordered n xs)
  where
    by_test : (b : Bool) → IsReordered (n ∷ xs) (put_in n xs) → IsReordered (n ∷ x ∷ xs) (if b then n ∷ (x ∷ xs) else x ∷ put_in n xs)
    by_test true r = reordered-refl (n ∷ x ∷ xs)
    by_test false r = IsReordered.through IsReordered.exchange (IsReordered.keep r)

ascending_reordered : (xs : List ℕ) → IsReordered xs (ascending xs)
ascending_reordered [] = IsReordered.nothing
ascending_reordered (x ∷ xs) = IsReordered.through (IsReordered.keep (ascending_reordered xs)) (put_reordered x (ascending xs))

-- EACH TYPE is found by its number
pub found_at : {X : Type 0} (p : X → Bool) (front : List X) (x : X) (rest : List X) → list_any p front ≡ false → p x ≡ true → find p (front ++ x ∷ rest) ≡ Some x
found_at p [] x rest none h = ap (λ b. if b then Some x else find p rest) h
found_at p (y ∷ front) x rest none h = let parts = or_parts (p y) (list_any p front) none in ap (λ b. if b then Some y else find p (front ++ x ∷ rest)) parts.0 ∙ found_at p front x rest parts.1 h

module _ (s : SettingData) (f : IsSetting s) where
  own_kind : (front : List KindData) (k : KindData) (rest : List KindData) → front ++ k ∷ rest ≡ s.kinds → printed_kind s k.number ≡ k
  unfolding kind_text
  own_kind front k rest e =
      let new = new_at (λ (x : KindData). x.number == k.number) front k rest s.kinds e (f.numbers k.number) (eq-eqb k.number k.number refl) in
      let found = ap (find (λ (x : KindData). x.number == k.number)) (sym e) ∙ found_at (λ (x : KindData). x.number == k.number) front k rest new (eq-eqb k.number k.number refl) in
      λ i. record { number = k.number; name = unwrap_or (option_map (λ (x : KindData). x.name) (found i)) [] }

  own_kinds : All (λ (k : KindData). printed_kind s k.number ≡ k) s.kinds
  own_kinds = All-split (λ (k : KindData). printed_kind s k.number ≡ k) s.kinds own_kind [] s.kinds refl

  named_again : (ks : List KindData) → All (λ (k : KindData). printed_kind s k.number ≡ k) ks → map (printed_kind s) (map (λ (k : KindData). k.number) ks) ≡ ks
  named_again [] a = refl
  named_again (k ∷ ks) a = λ i. All-head (λ (x : KindData). printed_kind s x.number ≡ x) k ks a i ∷ named_again ks (All-tail (λ (x : KindData). printed_kind s x.number ≡ x) k ks a) i

  -- THE TYPES IN ORDER are the same types as those of the setting
  pub kinds_reordered : IsReordered s.kinds (in_order s).kinds
  unfolding kind_numbers
  kinds_reordered = subst (λ ks. IsReordered ks (in_order s).kinds) (named_again s.kinds own_kinds) (reordered-map (printed_kind s) (ascending_reordered (map (λ (k : KindData). k.number) s.kinds)))

  pub ordered_number : (n : List ℕ) → kind_number (in_order s) n ≡ kind_number s n
  ordered_number n = ap (option_map (λ (k : KindData). k.number)) (sym (reordered-find (λ (k : KindData). bytes_eq k.name n) kinds_reordered (f.names n)))

-- TYPES: their words lead from a map without types to the map that has them
abbrev pub kinded : List TunableData → List KindData → SettingData
kinded tunables ks = record { kinds = ks; tunables = tunables; rules = [] }

abbrev pub own_words : KindData → List (List ℕ)
own_words k = kind_words k.number k.name

module _ (tunables : List TunableData) (u : List Row) where
  abbrev kinded_state : List KindData → State
  kinded_state ks = between (at first (quiet (kinded tunables ks) u))

  abbrev KindedMap : List KindData → Type 0
  KindedMap ks = IsMap (quiet (kinded tunables ks) u)

  module _ (all : List KindData) (each : All IsKind all) (numbers : (n : ℕ) → count_by (λ (k : KindData). k.number == n) all ≤ 1) (names : (n : List ℕ) → count_by (λ (k : KindData). bytes_eq k.name n) all ≤ 1) (few : length all ≤ MOST_TYPES)
      (others : List (List ℕ)) where
    kind_leads : EachLeads own_words kinded_state KindedMap all others
    kind_leads front k rest e m =
        let form = All-at IsKind front k rest (subst (All IsKind) (sym e) each) in
        let number = new_at (λ (x : KindData). x.number == k.number) front k rest all e (numbers k.number) (eq-eqb k.number k.number refl) in
        let name = new_at (λ (x : KindData). bytes_eq x.name k.name) front k rest all e (names k.name) (bytes_itself k.name) in
        let room = has_room (length front) (length all) MOST_TYPES (shorter front k rest all e) few in
        let more = map_with_kind (quiet (kinded tunables front) u) k.number k.name m form.number form.name form.free number name room in
        let small : k.number < 10 ^ 10 = let v = form.number in omega (arith, v) in
        record { holds = more; goes = kind_goes (quiet (kinded tunables front) u) k.number k.name (flat_map own_words rest ++ others) small (quiet_lawful (kinded tunables (front ++ k ∷ [])) u more) }

    all_kinds_go : KindedMap [] → Led (KindedMap all) (kinded_state []) (flat_map own_words all) others (kinded_state all)
    all_kinds_go m = each_goes own_words kinded_state KindedMap all others kind_leads [] all refl m

-- THE PRINTED TYPES of a setting lead to the map that has these types
pub kinds_go : (s : SettingData) (u : List Row) (others : List (List ℕ)) → IsSetting s → IsMap (quiet (kinded s.tunables []) u)
    → Led (IsMap (quiet (kinded s.tunables (in_order s).kinds) u)) (between (at first (quiet (kinded s.tunables []) u))) (flat_map (λ n. kind_words n (kind_text s n)) (kind_numbers s)) others (between (at first (quiet (kinded s.tunables (in_order s).kinds) u)))
kinds_go s u others f m =
    let same = kinds_reordered s f in
    let all = (in_order s).kinds in
    let k = all_kinds_go s.tunables u all (reordered-All IsKind same f.kinds)
    (λ n. let once = f.numbers n in omega (arith, once, reordered-count (λ (x : KindData). x.number == n) same))
    (λ n. let once = f.names n in omega (arith, once, reordered-count (λ (x : KindData). bytes_eq x.name n) same))
    (let few = f.few_kinds in omega (arith, few, reordered-length same)) others m in
    record { holds = k.holds; goes = subst (λ ws. Goes (between (at first (quiet (kinded s.tunables []) u))) ws others (between (at first (quiet (kinded s.tunables (in_order s).kinds) u)))) (flat_map-map own_words (printed_kind s) (kind_numbers s)) k.goes }
