-- The stops of a route in the code, and in the definitions about the table.
use Rattle.std.proofs.Common.{◌≡◌, ℕ, zero, suc, ◌+◌, ◌<◌, List, [], ◌∷◌, ◌++◌, length, take, drop, get_or, ap, sym, ◌∙◌, refl, arith}
use Rattle.std.specs.Prelude.{not, Some, None, All, fold, insert, nat_le, if◌then◌else◌}
use Rattle.std.specs.List.{position_or_len}
use Rattle.std.proofs.Math.Seq.{drop-cons}
use Rattle.std.proofs.lemmas.List.{take-map, drop-map, map-append}
use Rattle.std.proofs.lemmas.List.Elements.{All-cons, All-append, All-take, All-drop}
use Rattle.crush_edits.specs.declared.location.Pair.{Pair}
use Rattle.crush_edits.specs.Stops.{StopData, insert_stop, with_stop, stops}
use Rattle.crush_edits.specs.Setting.{SettingData, kind_number}
use Rattle.crush_apply.specs.declared.route.stops.Stop.{Stop}
use Rattle.crush_apply.specs.Stopped.{pair_name, stop_data, stops_data, IsPairOf, put_stop}

-- the name of a pair, by its index
pub name_at : (l : List Pair) (k : ℕ) (d : Pair) → k < length l → (get_or l k d).name ≡ pair_name l k
name_at [] k d h = absurd (omega (arith, h))
name_at (p ∷ l) zero d h = refl
name_at (p ∷ l) (suc k) d h = name_at l k d (omega (arith, h))

-- the position for a new stop is the same in the code and in the definitions
place_seen : (l : List Pair) (k : ℕ) (xs : List Stop) → position_or_len (λ (q : Stop). nat_le k q.kind) xs ≡ position_or_len (λ (q : StopData). nat_le k q.kind) (stops_data l xs)
place_seen l k [] = refl
place_seen l k (x ∷ xs) = ap (λ n. if not (nat_le k x.kind) then 1 + n else 0) (place_seen l k xs)

-- inserting a stop in the code is inserting it in the definitions
pub put_seen : (l : List Pair) (x : Stop) (xs : List Stop) → stops_data l (put_stop x xs) ≡ insert_stop (stop_data l x) (stops_data l xs)
put_seen l x xs =
    let i = position_or_len (λ (q : Stop). nat_le x.kind q.kind) xs in
    map-append (stop_data l) (take i xs) (x ∷ drop i xs)
    ∙ ap (λ zs. zs ++ stop_data l x ∷ stops_data l (drop i xs)) (sym (take-map (stop_data l) i xs))
    ∙ ap (λ zs. take i (stops_data l xs) ++ stop_data l x ∷ zs) (sym (drop-map (stop_data l) i xs))
    ∙ ap (λ j. insert (stops_data l xs) j (stop_data l x)) (place_seen l x.kind xs)

-- after a stop for a pair of the location is inserted, all stops are still for pairs of the location
pub put_pairs : (l : List Pair) (x : Stop) (xs : List Stop) → IsPairOf l x → All (IsPairOf l) xs → All (IsPairOf l) (put_stop x xs)
put_pairs l x xs h a =
    let i = position_or_len (λ (q : Stop). nat_le x.kind q.kind) xs in
    All-append (IsPairOf l) (take i xs) (x ∷ drop i xs) (All-take (IsPairOf l) i xs a) (All-cons (IsPairOf l) x (drop i xs) h (All-drop (IsPairOf l) i xs a))

-- the stops after one more pair of the location
abbrev pub more : SettingData → List StopData → Pair → List StopData
more s ps p = with_stop (kind_number s p.kind) p.name ps

pub left_one : (s : SettingData) (l : List Pair) (k : ℕ) (d : Pair) (ps : List StopData) → k < length l → fold (more s) ps (drop k l) ≡ fold (more s) (more s ps (get_or l k d)) (drop (k + 1) l)
left_one s l k d ps h =
    let next : k + 1 ≡ suc k = omega arith in
    ap (fold (more s) ps) (drop-cons l k d h) ∙ ap (λ j. fold (more s) (more s ps (get_or l k d)) (drop j l)) (sym next)

-- the invariant of the loop over a location: adding the stops of the pairs that are left gives the stops of the location
abbrev pub Left : SettingData → List Pair → ℕ → List Stop → Type 0
Left s l k xs = fold (more s) (stops_data l xs) (drop k l) ≡ stops s l

pub left_known : (s : SettingData) (l : List Pair) (k n : ℕ) (d : Pair) (xs : List Stop) → k < length l → kind_number s d.kind ≡ Some n → d ≡ get_or l k d → Left s l k xs → Left s l (k + 1) (put_stop (record { kind = n; pair = k }) xs)
left_known s l k n d xs h known is left =
    let x : Stop = record { kind = n; pair = k } in
    let name : d.name ≡ pair_name l k = ap (λ (p : Pair). p.name) is ∙ name_at l k d h in
    let one : more s (stops_data l xs) d ≡ stops_data l (put_stop x xs) =
    ap (λ o. with_stop o d.name (stops_data l xs)) known ∙ ap (λ m. insert_stop (record { kind = n; name = m }) (stops_data l xs)) name ∙ sym (put_seen l x xs) in
    ap (λ ps. fold (more s) ps (drop (k + 1) l)) (sym one) ∙ ap (λ p. fold (more s) (more s (stops_data l xs) p) (drop (k + 1) l)) is ∙ sym (left_one s l k d (stops_data l xs) h) ∙ left

pub left_unknown : (s : SettingData) (l : List Pair) (k : ℕ) (d : Pair) (xs : List Stop) → k < length l → kind_number s d.kind ≡ None → d ≡ get_or l k d → Left s l k xs → Left s l (k + 1) xs
left_unknown s l k d xs h unknown is left =
    let one : more s (stops_data l xs) d ≡ stops_data l xs = ap (λ o. with_stop o d.name (stops_data l xs)) unknown in
    ap (λ ps. fold (more s) ps (drop (k + 1) l)) (sym one) ∙ ap (λ p. fold (more s) (more s (stops_data l xs) p) (drop (k + 1) l)) is ∙ sym (left_one s l k d (stops_data l xs) h) ∙ left
