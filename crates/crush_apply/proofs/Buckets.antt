-- The loop that builds new buckets, one more at a time.
use Rattle.std.proofs.Common.{◌≡◌, ℕ, zero, suc, ◌+◌, ◌-◌, ◌<◌, ◌≤◌, List, [], ◌∷◌, ◌++◌, length, take, drop, get_or, refl, ap, sym, ◌∙◌, arith, add-one}
use Rattle.std.specs.Prelude.{All}
use Rattle.std.proofs.lemmas.List.{take_rest}
use Rattle.std.proofs.lemmas.List.Elements.{All-head, All-tail}
use Rattle.crush_units.specs.declared.limits.TheConstants.{HEAVIEST_BUCKET}
use Rattle.crush_model.specs.Items.{Items, none, bucket}
use Rattle.crush_model.specs.Stored.{weight_sum}
use Rattle.crush_nodes.specs.Held.{bucket_with}
use Rattle.crush_edits.specs.declared.location.Pair.{Pair}
use Rattle.crush_edits.specs.Stops.{StopData}
use Rattle.crush_edits.specs.Put.{NewData, with_ids, new_header}
use Rattle.crush_edits.specs.Boxes.{boxes}
use Rattle.crush_edits.proofs.Boxes.{boxes-more, weight_sum-boxes}
use Rattle.crush_apply.specs.declared.route.stops.Stop.{Stop}
use Rattle.crush_apply.specs.Stopped.{pair_name, stop_data, stops_data}

-- if the name of a pair isn't empty, the location has the pair
pub pair_there : (l : List Pair) (k : ℕ) → 0 < length (pair_name l k) → k < length l
pair_there [] k h = absurd (omega (arith, h))
pair_there (p ∷ l) zero h = omega arith
pair_there (p ∷ l) (suc k) h = let ih = pair_there l k h in omega arith

pub pair_name-get : (l : List Pair) (k : ℕ) (d : Pair) → k < length l → pair_name l k ≡ (get_or l k d).name
pair_name-get [] k d h = absurd (omega (arith, h))
pair_name-get (p ∷ l) zero d h = refl
pair_name-get (p ∷ l) (suc k) d h = pair_name-get l k d (omega (arith, h))

-- a property of all stops holds for each
pub stop_at : (P : StopData → Type 0) (l : List Pair) (xs : List Stop) (k : ℕ) (d : Stop) → k < length xs → All P (stops_data l xs) → P (stop_data l (get_or xs k d))
stop_at P l [] k d h all = absurd (omega (arith, h))
stop_at P l (x ∷ xs) zero d h all = All-head P (stop_data l x) (stops_data l xs) all
stop_at P l (x ∷ xs) (suc k) d h all = stop_at P l xs k d (omega (arith, h)) (All-tail P (stop_data l x) (stops_data l xs) all)

-- the new bucket for an id and a stop
abbrev pub new_of : ℕ → StopData → NewData
new_of i p = record { id = i; kind = p.kind; name = p.name }

-- the new buckets for one stop more
with_ids-more : (l : List Pair) (ids : List ℕ) (xs : List Stop) (k i : ℕ) (d : Stop) → k < length ids → k < length xs
    → with_ids (take (suc k) ids) (stops_data l (take (suc k) xs)) ≡ with_ids (take k ids) (stops_data l (take k xs)) ++ new_of (get_or ids k i) (stop_data l (get_or xs k d)) ∷ []
with_ids-more l [] xs k i d h g = absurd (omega (arith, h))
with_ids-more l (j ∷ ids) [] k i d h g = absurd (omega (arith, g))
with_ids-more l (j ∷ ids) (x ∷ xs) zero i d h g = refl
with_ids-more l (j ∷ ids) (x ∷ xs) (suc k) i d h g = ap (λ z. new_of j (stop_data l x) ∷ z) (with_ids-more l ids xs k i d (omega (arith, h)) (omega (arith, g)))

-- the lowest bucket, put into the others
pub with_lowest : (l : List Pair) (ids : List ℕ) (xs : List Stop) (i : ℕ) (d : Stop) (low : Items) → 0 < length ids → 0 < length xs
    → low ≡ bucket (new_header (new_of (get_or ids 0 i) (stop_data l (get_or xs 0 d)))) 0 1 none none
    → boxes 1 low (with_ids (take (length ids - 1) (drop 1 ids)) (stops_data l (take (length xs - 1) (drop 1 xs)))) ≡ boxes 1 none (with_ids ids (stops_data l xs))
with_lowest l [] xs i d low h g is = absurd (omega (arith, h))
with_lowest l (j ∷ ids) [] i d low h g is = absurd (omega (arith, g))
with_lowest l (j ∷ ids) (x ∷ xs) i d low h g is = λ k. boxes 1 (is k) (with_ids (take_rest (j ∷ ids) 1 k) (stops_data l (take_rest (x ∷ xs) 1 k)))

pub later_forms : (P : StopData → Type 0) (l : List Pair) (xs : List Stop) → All P (stops_data l xs) → All P (stops_data l (drop 1 xs))
later_forms P l [] all = all
later_forms P l (x ∷ xs) all = All-tail P (stop_data l x) (stops_data l xs) all

-- one more new bucket, which holds the item in the buckets before it
pub one_more : (l : List Pair) (item : Items) (ids : List ℕ) (xs : List Stop) (k i : ℕ) (d : Stop) (above below more : Items) → k < length ids → k < length xs
    → above ≡ bucket (new_header (new_of (get_or ids k i) (stop_data l (get_or xs k d)))) 0 1 none none
    → below ≡ boxes 1 item (with_ids (take k ids) (stops_data l (take k xs)))
    → more ≡ bucket_with below above
    → more ≡ boxes 1 item (with_ids (take (k + 1) ids) (stops_data l (take (k + 1) xs)))
one_more l item ids xs k i d above below more h g empty so_far held =
    let n = new_of (get_or ids k i) (stop_data l (get_or xs k d)) in
    let ns = with_ids (take k ids) (stops_data l (take k xs)) in
    let first : 0 + weight_sum (boxes 1 item ns) ≡ weight_sum (boxes 1 item ns) = omega arith in
    held ∙ (λ j. bucket_with (so_far j) (empty j))
    ∙ (λ j. bucket (new_header n) (first j) 1 (boxes 1 item ns) none)
    ∙ sym (boxes-more 1 item ns n)
    ∙ sym (ap (boxes 1 item) (with_ids-more l ids xs k i d h g))
    ∙ (λ j. boxes 1 item (with_ids (take (sym (add-one k) j) ids) (stops_data l (take (sym (add-one k) j) xs))))

-- the new bucket and what is put into it together weigh what the item weighs
pub weigh_item : (item above below : Items) (h : _) (ns : List NewData) → weight_sum item ≤ HEAVIEST_BUCKET → above ≡ bucket h 0 1 none none → below ≡ boxes 1 item ns → weight_sum above + weight_sum below ≤ HEAVIEST_BUCKET
weigh_item item above below h ns light empty so_far =
    let nothing : weight_sum above ≡ 0 = ap weight_sum empty in
    let within : weight_sum below ≡ weight_sum item = ap weight_sum so_far ∙ weight_sum-boxes 1 item ns in
    omega (arith, nothing, within, light)
