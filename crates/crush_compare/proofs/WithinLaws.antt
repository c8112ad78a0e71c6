-- Proves that if items are matched by ids, the pairs of a part are exactly the pairs whose item is in the part of at least one map.
use Rattle.std.proofs.Common.{◌≡◌, ℕ, zero, suc, ◌+◌, ◌<◌, ◌≤◌, ◌==◌, ◌&&◌, ◌||◌, Bool, true, false, nat_lt, List, [], ◌∷◌, ◌++◌, Option, Some, None, length, refl, sym, ap, subst, ◌∙◌, arith, map, take, drop, get_or, ◌≢◌, ◌⊎◌, inl, inr, ⊎_elim}
use Rattle.std.specs.Prelude.{All, cond, filter, flat_map, is_some, option_and_then}
use Rattle.std.specs.List.{count_by, slice_get, slice_range, sum_by}
use Rattle.std.specs.Option.{option_map, option_map_or}
use Rattle.std.proofs.lemmas.Bool.{eqb-true}
use Rattle.std.proofs.lemmas.Bool.Decides.{nat_tests}
use Rattle.std.proofs.lemmas.Grind.{flat_map-append}
use Rattle.std.proofs.lemmas.List.{take_more}
use Rattle.std.proofs.lemmas.List.Elements.{All-head, All-tail, filter-append}
use Rattle.std.proofs.lemmas.List.Sums.{sum_by-append, sum_by-cons}
use Rattle.crush_units.specs.declared.id.ItemId.{ItemId}
use Rattle.crush_units.specs.declared.id.ItemId.TheVariants.{Device, Bucket}
use Rattle.crush_units.specs.Id.{same_id}
use Rattle.crush_units.proofs.Ids.{same_id_tells}
use Rattle.crush_model.specs.Count.{one_if}
use Rattle.crush_model.specs.Lawful.{Lawful}
use Rattle.crush_model.specs.Table.{Row, bucket_ids, is_below, is_there, kids, row_of}
use Rattle.crush_model.proofs.Climbs.{eqb_turned, is_below-absent, sum_by-zero}
use Rattle.crush_model.proofs.KidSums.{sum_by-agree}
use Rattle.crush_model.proofs.Moved.{row_id}
use Rattle.crush_model.proofs.Reorder.{sum_by-flat_map, sum_by-map}
use Rattle.crush_nodes.specs.Views.{ViewData, row_view}
use Rattle.crush_items.specs.ById.{AreById, IsPlaceIn, IsShort, entry_at, id_key}
use Rattle.crush_items.specs.Entries.{EntryData, entry_of, row_entry}
use Rattle.crush_items.specs.Items.{HasEntries, entry_id, item_entry, item_step}
use Rattle.crush_items.specs.Order.{ascending, device_number}
use Rattle.crush_items.specs.Runs.{first_with_below}
use Rattle.crush_items.specs.Tree.{WalkStepData, step_at, steps_at, tree_rows}
use Rattle.crush_items.specs.declared.by_id.Place.{Place}
use Rattle.crush_items.specs.declared.items.Item.{Item}
use Rattle.crush_items.specs.declared.run.Run.{Run}
use Rattle.crush_compare.specs.AllIds.{all_buckets, all_devices, all_ids, once}
use Rattle.crush_compare.specs.IdPairs.{AreBothById, EntryPair, entries_at, id_entries}
use Rattle.crush_compare.specs.Named.{is_at}
use Rattle.crush_compare.specs.Pairs.{ArePairsOf, RiseFrom, Rise, key_pair, keys, place_of, position, positions}
use Rattle.crush_compare.specs.PartIds.{each_once, ids_below, part_ids}
use Rattle.crush_compare.specs.Within.{IsRunOf, has_item_within, is_within}
use Rattle.crush_compare.specs.declared.by_id.Pair.{Pair}
use Rattle.crush_compare.proofs.FoundLaws.{found_pairs}
use Rattle.crush_compare.proofs.IdKeys.{has-kept, short_ids}
use Rattle.crush_compare.proofs.IdPairs.{at_position, by_id_rises, has-sum, keys_of_all_ids, looked_up}
use Rattle.crush_compare.proofs.KeyLaws.{has, has-append, rise-once, unique, up-ascending}
use Rattle.crush_compare.proofs.PartLaws.{steps_are_part}
use Rattle.crush_compare.proofs.PositionLaws.{run_is_part, told_there}

-- the elements that meet a test, among the first i + 1 elements of a list
pub more_met : {X : Type 0} (f : X → Bool) (xs : List X) (i : ℕ) (x : X) → i < length xs → x ≡ get_or xs i x → filter f (take (i + 1) xs) ≡ filter f (take i xs) ++ filter f (x ∷ [])
more_met f xs i x lt is = ap (filter f) (take_more xs i x lt ∙ ap (λ y. take i xs ++ y ∷ []) (sym is)) ∙ filter-append f (take i xs) (x ∷ [])

-- NUMBERS that meet a test: filtering a rising list keeps exactly its members that meet the test, and the result rises
has_by : (f : ℕ → Bool) (n x : ℕ) (xs : List ℕ) (b c : Bool) → (n == x) ≡ b → f x ≡ c → has n (filter f xs) ≡ (f n && has n xs) → has n (cond c (x ∷ filter f xs) (filter f xs)) ≡ (f n && (b || has n xs))
has_by f n x xs true true same met rest =
    let own : f n ≡ true = ap f (eqb-true n x same) ∙ met in ap (λ b. b || has n (filter f xs)) same ∙ ap (λ b. b && true) (sym own)
has_by f n x xs true false same met rest =
    let own : f n ≡ false = ap f (eqb-true n x same) ∙ met in rest ∙ ap (λ b. b && has n xs) own ∙ ap (λ b. b && true) (sym own)
has_by f n x xs false true other met rest = ap (λ b. b || has n (filter f xs)) other ∙ rest
has_by f n x xs false false other met rest = rest

has-filter : (f : ℕ → Bool) (n : ℕ) (xs : List ℕ) → has n (filter f xs) ≡ (f n && has n xs)
has-filter f n [] = by (f n) where
  by : (b : Bool) → false ≡ (b && false)
  by true = refl
  by false = refl
has-filter f n (x ∷ xs) = has_by f n x xs (n == x) (f x) refl refl (has-filter f n xs)

rise_later : (low high : ℕ) (xs : List ℕ) → low ≤ high → RiseFrom high xs → RiseFrom low xs
rise_later low high [] less up = tt
rise_later low high (x ∷ xs) less up = (omega (arith, less, up.0), up.1)

rise_by : (f : ℕ → Bool) (low x : ℕ) (xs : List ℕ) (c : Bool) → low ≤ x → RiseFrom (x + 1) (filter f xs) → RiseFrom low (cond c (x ∷ filter f xs) (filter f xs))
rise_by f low x xs true less up = (less, up)
rise_by f low x xs false less up = rise_later low (x + 1) (filter f xs) (omega (arith, less)) up

rise-filter : (f : ℕ → Bool) (low : ℕ) (xs : List ℕ) → RiseFrom low xs → RiseFrom low (filter f xs)
rise-filter f low [] up = tt
rise-filter f low (x ∷ xs) up = rise_by f low x xs (f x) up.0 (rise-filter f (x + 1) xs up.1)

-- filtering a list that is sorted without repetitions: the result is the sorted list of the members that meet the test
met_once : (f : ℕ → Bool) (xs ys : List ℕ) → ((n : ℕ) → (f n && has n xs) ≡ has n ys) → filter f (once (ascending xs)) ≡ once (ascending ys)
met_once f xs ys same =
    unique 0 (filter f (once (ascending xs))) (once (ascending ys)) (rise-filter f 0 (once (ascending xs)) (rise-once (ascending xs) (up-ascending xs))) (rise-once (ascending ys) (up-ascending ys))
    (λ n. has-filter f n (once (ascending xs)) ∙ ap (λ b. f n && b) (has-kept n xs) ∙ same n ∙ sym (has-kept n ys))

filter_ids : (q : ItemId → Bool) (g : ℕ → ItemId) (xs : List ℕ) → filter q (map g xs) ≡ map g (filter (λ n. q (g n)) xs)
filter_ids q g [] = refl
filter_ids q g (x ∷ xs) = by (q (g x)) (filter_ids q g xs) where
  by : (c : Bool) → filter q (map g xs) ≡ map g (filter (λ n. q (g n)) xs) → cond c (g x ∷ filter q (map g xs)) (filter q (map g xs)) ≡ map g (cond c (x ∷ filter (λ n. q (g n)) xs) (filter (λ n. q (g n)) xs))
  by true rest = ap (λ is. g x ∷ is) rest
  by false rest = rest

-- THE STEPS of the walk from an item downward visit only items that the table has
absent_steps : (t : List Row) (j : ItemId) → is_there t j ≡ false → (n depth : ℕ) (i : ItemId) → count_by (λ (s : WalkStepData). same_id s.item.id j) (steps_at t n depth i) ≡ 0
unfolding steps_at step_at
absent_steps t j gone n depth i = by_steps n depth i where
  is_it : WalkStepData → ℕ
  is_it s = one_if (same_id s.item.id j)

  own : (d : ℕ) (k : ItemId) → sum_by is_it (step_at t d k) ≡ 0
  own d k = by_row (row_of t k) refl where
    by_row : (o : Option Row) → row_of t k ≡ o → sum_by is_it (option_map_or (λ (v : ViewData). record { depth = d; item = v } ∷ []) (option_map (row_view t) o) []) ≡ 0
    by_row None is = refl
    by_row (Some r) is = ⊎_elim
        (λ p. absurd (let no : true ≡ false = sym (ap is_some is) ∙ ap (is_there t) (sym (row_id k t r is) ∙ p.1) ∙ gone in cc))
        (λ p. let none : one_if (same_id r.id j) ≡ 0 = ap one_if p.0 in omega (arith, none, sum_by-cons is_it (record { depth = d; item = row_view t r }) []))
        (same_id_tells r.id j)

  by_steps : (m d : ℕ) (k : ItemId) → sum_by is_it (steps_at t m d k) ≡ 0
  by_steps m d (Device e) = own d (Device e)
  by_steps zero d (Bucket b) = refl
  by_steps (suc m) d (Bucket b) =
      let kids_none : sum_by is_it (flat_map (steps_at t m (d + 1)) (kids t b)) ≡ 0 =
      sum_by-flat_map is_it (steps_at t m (d + 1)) (kids t b) ∙ sum_by-zero (λ k. sum_by is_it (steps_at t m (d + 1) k)) (λ k. by_steps m (d + 1) k) (kids t b) in
      omega (arith, own d (Bucket b), kids_none, sum_by-append is_it (step_at t d (Bucket b)) (flat_map (steps_at t m (d + 1)) (kids t b)))

-- WHETHER A TABLE has the item j, and j is i or below i
abbrev pub has_at : List Row → ItemId → ItemId → Bool
has_at t i j = is_there t j && is_at t i j

positive : (b : Bool) → nat_lt 0 (one_if b) ≡ b
positive true = grind (arith, nat_tests)
positive false = grind (arith, nat_tests)

among_steps : (t : List Row) (i j : ItemId) → Lawful t → nat_lt 0 (count_by (λ (s : WalkStepData). same_id s.item.id j) (steps_at t (length t) 0 i)) ≡ has_at t i j
among_steps t i j lawful = by (is_there t j) refl where
  by : (b : Bool) → is_there t j ≡ b → nat_lt 0 (count_by (λ (s : WalkStepData). same_id s.item.id j) (steps_at t (length t) 0 i)) ≡ (b && is_at t i j)
  by true there = ap (nat_lt 0) (steps_are_part t i j 0 lawful there) ∙ positive (is_at t i j)
  by false gone = ap (nat_lt 0) (absent_steps t j gone (length t) 0 i) ∙ (let no : nat_lt 0 0 ≡ false = grind (arith, nat_tests) in no)

-- a number is in the ids at or below the item i, of one kind (buckets or devices), if and only if the table has this id at or below i
module _ (kind : ItemId → List ℕ) (g : ℕ → ItemId) (one : (n : ℕ) (i : ItemId) → sum_by (λ m. one_if (n == m)) (kind i) ≡ one_if (same_id i (g n))) where
  has_below : (t : List Row) (i : ItemId) (n : ℕ) → Lawful t → has n (flat_map kind (ids_below t i)) ≡ has_at t i (g n)
  has_below t i n lawful =
      let ss : List WalkStepData = steps_at t (length t) 0 i in
      has-sum n (flat_map kind (ids_below t i))
      ∙ ap (nat_lt 0)
      (sum_by-flat_map (λ m. one_if (n == m)) kind (ids_below t i) ∙ sum_by-agree _ (λ j. one_if (same_id j (g n))) (one n) (ids_below t i)
      ∙ sum_by-map (λ j. one_if (same_id j (g n))) (λ (s : WalkStepData). s.item.id) ss)
      ∙ among_steps t i (g n) lawful

one_bucket : (n : ℕ) (i : ItemId) → sum_by (λ m. one_if (n == m)) (bucket_ids i) ≡ one_if (same_id i (Bucket n))
one_bucket n (Device d) = refl
one_bucket n (Bucket b) = let turned : one_if (n == b) ≡ one_if (b == n) = ap one_if (eqb_turned n b) in omega (arith, turned, sum_by-cons (λ m. one_if (n == m)) b [])

one_device : (n : ℕ) (i : ItemId) → sum_by (λ m. one_if (n == m)) (device_number i) ≡ one_if (same_id i (Device n))
one_device n (Bucket b) = refl
one_device n (Device d) = let turned : one_if (n == d) ≡ one_if (d == n) = ap one_if (eqb_turned n d) in omega (arith, turned, sum_by-cons (λ m. one_if (n == m)) d [])

-- a number is in the ids of all rows, of one kind, if and only if the table has this id
module _ (kind : ItemId → List ℕ) (g : ℕ → ItemId) (one : (n : ℕ) (i : ItemId) → has n (kind i) ≡ same_id i (g n)) where
  has_row : (t : List Row) (n : ℕ) → has n (flat_map (λ (r : Row). kind r.id) t) ≡ is_there t (g n)
  has_row [] n = refl
  has_row (r ∷ t) n = has-append n (kind r.id) (flat_map (λ (x : Row). kind x.id) t) ∙ (λ k. one n r.id k || has_row t n k) ∙ by (same_id r.id (g n)) (row_of t (g n)) where
    by : (b : Bool) (o : Option Row) → (b || is_some o) ≡ is_some (cond b (Some r) o)
    by true o = refl
    by false o = refl

or_none : (b : Bool) → (b || false) ≡ b
or_none true = refl
or_none false = refl

is_bucket_here : (n : ℕ) (i : ItemId) → has n (bucket_ids i) ≡ same_id i (Bucket n)
is_bucket_here n (Device d) = refl
is_bucket_here n (Bucket b) = or_none (n == b) ∙ eqb_turned n b

is_device_here : (n : ℕ) (i : ItemId) → has n (device_number i) ≡ same_id i (Device n)
is_device_here n (Bucket b) = refl
is_device_here n (Device d) = or_none (n == d) ∙ eqb_turned n d

-- THE IDS OF A PART are exactly the ids that at least one of the tables has at or below the item
abbrev pub in_either : List Row → List Row → ItemId → ItemId → Bool
in_either t u i j = has_at t i j || has_at u i j

both_there : (p q a b : Bool) → (((p && a) || (q && b)) && (p || q)) ≡ ((p && a) || (q && b))
both_there true q true b = refl
both_there true true false true = refl
both_there true true false false = refl
both_there true false false b = refl
both_there false true a true = refl
both_there false true a false = refl
both_there false false a b = refl

module _ (kind : ItemId → List ℕ) (g : ℕ → ItemId) (one : (n : ℕ) (i : ItemId) → sum_by (λ m. one_if (n == m)) (kind i) ≡ one_if (same_id i (g n))) (here : (n : ℕ) (i : ItemId) → has n (kind i) ≡ same_id i (g n)) where
  part_numbers : (t u : List Row) (i : ItemId) → Lawful t → Lawful u
      → filter (λ n. in_either t u i (g n)) (once (ascending (flat_map (λ (r : Row). kind r.id) t ++ flat_map (λ (r : Row). kind r.id) u))) ≡ once (ascending (flat_map kind (ids_below t i ++ ids_below u i)))
  part_numbers t u i x y =
      met_once (λ n. in_either t u i (g n)) (flat_map (λ (r : Row). kind r.id) t ++ flat_map (λ (r : Row). kind r.id) u) (flat_map kind (ids_below t i ++ ids_below u i)) (λ n.
      ap (λ b. in_either t u i (g n) && b) (has-append n (flat_map (λ (r : Row). kind r.id) t) (flat_map (λ (r : Row). kind r.id) u) ∙ (λ k. has_row kind g here t n k || has_row kind g here u n k))
      ∙ both_there (is_there t (g n)) (is_there u (g n)) (is_at t i (g n)) (is_at u i (g n))
      ∙ (λ k. sym (has_below kind g one t i n x) k || sym (has_below kind g one u i n y) k)
      ∙ sym (has-append n (flat_map kind (ids_below t i)) (flat_map kind (ids_below u i)))
      ∙ ap (has n) (sym (flat_map-append kind (ids_below t i) (ids_below u i))))

pub ids_in_part : (t u : List Row) (i : ItemId) → Lawful t → Lawful u → filter (in_either t u i) (all_ids t u) ≡ part_ids t u i
unfolding all_ids all_buckets all_devices part_ids each_once
ids_in_part t u i x y =
    let bs : List ℕ = once (ascending (flat_map (λ (r : Row). bucket_ids r.id) t ++ flat_map (λ (r : Row). bucket_ids r.id) u)) in
    let ds : List ℕ = once (ascending (flat_map (λ (r : Row). device_number r.id) t ++ flat_map (λ (r : Row). device_number r.id) u)) in
    filter-append (in_either t u i) (map Bucket bs) (map Device ds)
    ∙ (λ k. (filter_ids (in_either t u i) Bucket bs ∙ ap (map Bucket) (part_numbers bucket_ids Bucket one_bucket is_bucket_here t u i x y)) k
    ++ (filter_ids (in_either t u i) Device ds ∙ ap (map Device) (part_numbers device_number Device one_device is_device_here t u i x y)) k)

-- THE POSITION of an id is in the run if and only if the table has this id at or below the item
placed_in : (es : List EntryData) (k : ℕ) (ps : List Place) (x : Place) → All (IsPlaceIn es) ps → place_of k ps ≡ Some x → IsPlaceIn es x
placed_in es k [] x placed is = absurd cc
placed_in es k (p ∷ ps) x placed is = by (k == p.key) is (placed_in es k ps x (All-tail (IsPlaceIn es) p ps placed)) where
  by : (b : Bool) → cond b (Some p) (place_of k ps) ≡ Some x → (place_of k ps ≡ Some x → IsPlaceIn es x) → IsPlaceIn es x
  by true h rest = let same : p ≡ x = cc in subst (IsPlaceIn es) same (All-head (IsPlaceIn es) p ps placed)
  by false h rest = rest h

entry_there : (t : List Row) (j : ItemId) (o : Option EntryData) → entry_of t j ≡ o → is_there t j ≡ is_some o
entry_there t j o is = by (row_of t j) ∙ ap is_some is where
  by : (r : Option Row) → is_some r ≡ is_some (option_map (row_entry t j) r)
  by None = refl
  by (Some r) = refl

entry_own : (t : List Row) (j : ItemId) (e : EntryData) → entry_of t j ≡ Some e → entry_id e ≡ j
entry_own t j e is = by (row_of t j) refl is where
  by : (o : Option Row) → row_of t j ≡ o → option_map (row_entry t j) o ≡ Some e → entry_id e ≡ j
  by None found h = absurd cc
  by (Some r) found h = let same : row_entry t j r ≡ e = cc in ap entry_id (sym same) ∙ row_id j t r found

within_run : (t : List Row) (es : List EntryData) (ps : List Place) (i j : ItemId) (run : Run) → Lawful t → AreById t es ps → IsRunOf t es i run → IsShort j → is_within run (position (place_of (id_key j) ps)) ≡ has_at t i j
within_run t es ps i j run lawful by_id is_run short = by_place (place_of (id_key j) ps) refl (looked_up t es ps j lawful by_id short) where
  gone : entry_of t j ≡ None → false ≡ has_at t i j
  gone none = ap (λ b. b && is_at t i j) (sym (entry_there t j None none))

  here : (x : Place) (o : Option EntryData) → IsPlaceIn es x → entry_at es x ≡ o → entry_of t j ≡ o → is_within run (Some x.at) ≡ has_at t i j
  here x None placed at is = absurd (let no : option_map (λ e. id_key (entry_id e)) None ≡ Some x.key = ap (option_map (λ e. id_key (entry_id e))) (sym at) ∙ placed in cc)
  here x (Some e) placed at is = is_run x.at e at ∙ ap (is_at t i) (entry_own t j e is) ∙ ap (λ b. b && is_at t i j) (sym (entry_there t j (Some e) is))

  by_place : (o : Option Place) → place_of (id_key j) ps ≡ o → option_and_then (entry_at es) o ≡ entry_of t j → is_within run (position o) ≡ has_at t i j
  by_place None found is = gone (sym is)
  by_place (Some x) found is = here x (entry_at es x) (placed_in es (id_key j) ps x by_id.placed found) refl (sym is)

-- THE PAIRS OF A PART are the pairs of the ids of the part
kept_by : (es fs : List EntryData) (t u : List Row) (p : Pair) (ps : List Pair) (j : ItemId) (js : List ItemId) (b c : Bool) → b ≡ c → entries_at es fs p ≡ id_entries t u j → map (entries_at es fs) ps ≡ map (id_entries t u) js
    → map (entries_at es fs) (cond b (p ∷ ps) ps) ≡ map (id_entries t u) (cond c (j ∷ js) js)
kept_by es fs t u p ps j js true true same own rest = λ k. own k ∷ rest k
kept_by es fs t u p ps j js false false same own rest = rest
kept_by es fs t u p ps j js true false same own rest = absurd cc
kept_by es fs t u p ps j js false true same own rest = absurd cc

module _ (t u : List Row) (es fs : List EntryData) (old new : List Place) (i : ItemId) (old_run new_run : Run) (both : AreBothById t u es fs old new) (before : IsRunOf t es i old_run) (after : IsRunOf u fs i new_run) where
  kept_ids : (js : List ItemId) → All IsShort js
      → map (entries_at es fs) (filter (has_item_within old_run new_run) (map positions (map (key_pair old new) (map id_key js)))) ≡ map (id_entries t u) (filter (in_either t u i) js)
  kept_ids [] short = refl
  kept_ids (j ∷ js) short =
      let own : IsShort j = All-head IsShort j js short in
      let was = at_position es (place_of (id_key j) old) ∙ looked_up t es old j both.old_lawful both.before own in
      let is = at_position fs (place_of (id_key j) new) ∙ looked_up u fs new j both.new_lawful both.after own in
      kept_by es fs t u (positions (key_pair old new (id_key j))) (filter (has_item_within old_run new_run) (map positions (map (key_pair old new) (map id_key js)))) j (filter (in_either t u i) js)
      (has_item_within old_run new_run (positions (key_pair old new (id_key j)))) (in_either t u i j)
      (λ k. within_run t es old i j old_run both.old_lawful both.before before own k || within_run u fs new i j new_run both.new_lawful both.after after own k)
      (λ k. record { before = was k; after = is k }) (kept_ids js (All-tail IsShort j js short))

  pub pairs_of_part : (ps : List Pair) → (Rise (keys old) → Rise (keys new) → ArePairsOf old new ps) → map (entries_at es fs) (filter (has_item_within old_run new_run) ps) ≡ map (id_entries t u) (part_ids t u i)
  pairs_of_part ps pairs =
      let h : ArePairsOf old new ps = pairs (by_id_rises t es old both.old_lawful both.before) (by_id_rises u fs new both.new_lawful both.after) in
      ap (λ qs. map (entries_at es fs) (filter (has_item_within old_run new_run) qs)) (h.are ∙ ap (map positions) (found_pairs old new h.keyed h.of_keys ∙ ap (map (key_pair old new)) (keys_of_all_ids t u es fs old new h.keyed both h.of_keys)))
      ∙ kept_ids (all_ids t u) (short_ids t u both.old_lawful both.new_lawful) ∙ ap (map (id_entries t u)) (ids_in_part t u i both.old_lawful both.new_lawful)

-- the steps of a list of items show the same views as the entries of these items
pub views_of : {A : _} (xs : List (Item A)) → map (λ (e : EntryData). e.item.view) (map item_entry xs) ≡ map (λ (s : WalkStepData). s.item) (map item_step xs)
views_of [] = refl
views_of (x ∷ xs) = ap (λ vs. (item_step x).item ∷ vs) (views_of xs)

-- A RUN from the place of the item i is the run of i
pub run_here : (t : List Row) (es : List EntryData) (i : ItemId) (p : Place) (run : Run) → Lawful t → HasEntries t es → map (λ (x : EntryData). x.item.view) es ≡ map (λ (s : WalkStepData). s.item) (tree_rows t)
    → option_map (entry_at es) (Some p) ≡ option_map Some (entry_of t i) → run.from ≡ p.at → slice_range (tree_rows t) run.from run.to ≡ first_with_below t (drop p.at (tree_rows t)) → IsRunOf t es i run
run_here t es i p run lawful has tree found from part at e is = by (entry_of t i) refl found where
  by : (o : Option EntryData) → entry_of t i ≡ o → option_map (entry_at es) (Some p) ≡ option_map Some o → is_within run (Some at) ≡ is_at t i (entry_id e)
  by None own h = absurd cc
  by (Some top) own h =
      let here : slice_get es p.at ≡ Some top = cc in
      run_is_part t es run.from run.to at top e lawful has tree (ap (slice_get es) from ∙ here) is (part ∙ ap (λ n. first_with_below t (drop n (tree_rows t))) (sym from)) ∙ ap (λ j. is_at t j (entry_id e)) (entry_own t i top own)

nothing_below : (t : List Row) (i j : ItemId) → Lawful t → is_there t i ≡ false → is_there t j ≡ true → is_at t i j ≡ false
nothing_below t i j lawful gone there = by i gone (same_id_tells i j) where
  by : (k : ItemId) → is_there t k ≡ false → ((same_id k j ≡ true) × (k ≡ j)) ⊎ ((same_id k j ≡ false) × (k ≢ j)) → is_at t k j ≡ false
  by k none (inl p) = absurd (let no : true ≡ false = sym there ∙ ap (is_there t) (sym p.1) ∙ none in cc)
  by (Device d) none (inr p) = p.0
  by (Bucket b) none (inr p) = ap (λ c. c || is_below t b j) p.0 ∙ is_below-absent t lawful.parents b none j

-- the empty run is the run of an item that the table doesn't have
pub run_nowhere : (t : List Row) (es : List EntryData) (i : ItemId) → Lawful t → HasEntries t es → None ≡ option_map Some (entry_of t i) → IsRunOf t es i (record { from = 0; to = 0 })
run_nowhere t es i lawful has none at e is =
    (let no : is_within (record { from = 0; to = 0 }) (Some at) ≡ false = grind (arith, nat_tests) in no) ∙ sym (nothing_below t i (entry_id e) lawful (by (row_of t i) none) (told_there t es at e has.told is)) where
      by : (o : Option Row) → None ≡ option_map Some (option_map (row_entry t i) o) → is_some o ≡ false
      by None h = refl
      by (Some r) h = absurd cc
