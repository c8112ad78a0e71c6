-- Proves that if two lawful tables are matched by names, each item of either table is in exactly one pair.
use Rattle.std.proofs.Common.{◌≡◌, ℕ, ◌+◌, true, false, List, [], ◌∷◌, ◌++◌, map, filter_map, ap, subst, ◌∙◌, refl, sym, arith, append-nil}
use Rattle.std.specs.Prelude.{All, Bool, IfSome, Option, None, Some, bytes_eq, flat_map, is_some, not, if◌then◌else◌, option_and_then}
use Rattle.std.specs.List.{cons_option, count_by, sum_by}
use Rattle.std.specs.Option.{option_map, option_map_or}
use Rattle.std.proofs.lemmas.List.Elements.{All-nil, All-cons, All-head, All-tail, All-append, filter_map-append}
use Rattle.std.proofs.lemmas.List.Sums.{sum_by-append, sum_by-cons}
use Rattle.crush_units.specs.declared.id.ItemId.{ItemId}
use Rattle.crush_units.specs.declared.id.ItemId.TheVariants.{Device, Bucket}
use Rattle.crush_model.specs.Count.{one_if}
use Rattle.crush_model.specs.Lawful.{Lawful}
use Rattle.crush_model.specs.Table.{Row, id_named, is_there, row_named, row_of}
use Rattle.crush_model.proofs.Climbs.{eqb_turned, sum_by-plus}
use Rattle.crush_model.proofs.Found.{Distinct, DistinctNames}
use Rattle.crush_model.proofs.KidSums.{sum_by-agree, sum_by-swap}
use Rattle.crush_model.proofs.Moved.{row_id}
use Rattle.crush_model.proofs.Reorder.{sum_by-map}
use Rattle.crush_model.proofs.Tested.{bytes_equal, bytes_itself}
use Rattle.crush_model.proofs.Weighs.{All-found}
use Rattle.crush_items.specs.Entries.{EntryData, entry_of}
use Rattle.crush_items.specs.ItemData.{ItemData, item_of, row_item}
use Rattle.crush_items.specs.Items.{HasEntries, entry_id}
use Rattle.crush_items.proofs.EntryLaws.{entry_item}
use Rattle.crush_compare.specs.Named.{are_one, counterpart, if_one, is_one_device}
use Rattle.crush_compare.specs.NamedItems.{HasEachOnce}
use Rattle.crush_compare.specs.NamedPairs.{PairData, new_pair, old_pair}
use Rattle.crush_compare.specs.declared.identity.Devices.{Devices}
use Rattle.crush_compare.specs.declared.identity.Devices.TheVariants.{ById, ByName}
use Rattle.crush_compare.proofs.NamedLaws.{named_there}

-- SUMS over the rows that have a given name
abbrev if_named : (Row → ℕ) → List ℕ → Row → ℕ
if_named f m r = if bytes_eq r.name m then f r else 0

none_named : (f : Row → ℕ) (m : List ℕ) (t : List Row) → count_by (λ (r : Row). bytes_eq r.name m) t ≡ 0 → sum_by (if_named f m) t ≡ 0
none_named f m [] none = refl
none_named f m (r ∷ t) none = by_test (bytes_eq r.name m) refl (none_named f m t) where
  by_test : (b : Bool) → bytes_eq r.name m ≡ b → (count_by (λ (x : Row). bytes_eq x.name m) t ≡ 0 → sum_by (if_named f m) t ≡ 0) → sum_by (if_named f m) (r ∷ t) ≡ 0
  by_test true is rest = absurd (let one : one_if (bytes_eq r.name m) ≡ 1 = ap one_if is in omega (arith, one, none, sum_by-cons (λ (x : Row). one_if (bytes_eq x.name m)) r t))
  by_test false is rest =
      let own : if_named f m r ≡ 0 = ap (λ b. if b then f r else 0) is in
      let no : one_if (bytes_eq r.name m) ≡ 0 = ap one_if is in
      omega (arith, own, rest (omega (arith, no, none, sum_by-cons (λ (x : Row). one_if (bytes_eq x.name m)) r t)), sum_by-cons (if_named f m) r t)

named_sum : (f : Row → ℕ) (m : List ℕ) (t : List Row) → DistinctNames t → sum_by (if_named f m) t ≡ option_map_or f (row_named t m) 0
named_sum f m [] d = refl
named_sum f m (r ∷ t) d = by_test (bytes_eq r.name m) refl (named_sum f m t rest) where
  count : count_by (λ (x : Row). bytes_eq x.name m) (r ∷ t) ≡ one_if (bytes_eq r.name m) + count_by (λ (x : Row). bytes_eq x.name m) t
  count = sum_by-cons (λ (x : Row). one_if (bytes_eq x.name m)) r t

  rest : DistinctNames t
  rest k = omega (arith, d k, sum_by-cons (λ (x : Row). one_if (bytes_eq x.name k)) r t)

  by_test : (b : Bool) → bytes_eq r.name m ≡ b → sum_by (if_named f m) t ≡ option_map_or f (row_named t m) 0 → sum_by (if_named f m) (r ∷ t) ≡ option_map_or f (if bytes_eq r.name m then Some r else row_named t m) 0
  by_test true is others =
      let one : one_if (bytes_eq r.name m) ≡ 1 = ap one_if is in
      let own : if_named f m r ≡ f r = ap (λ b. if b then f r else 0) is in
      let none : sum_by (if_named f m) t ≡ 0 = none_named f m t (omega (arith, one, count, d m)) in
      let all : sum_by (if_named f m) (r ∷ t) ≡ f r = omega (arith, own, none, sum_by-cons (if_named f m) r t) in
      all ∙ ap (λ b. option_map_or f (if b then Some r else row_named t m) 0) (sym is)
  by_test false is others =
      let own : if_named f m r ≡ 0 = ap (λ b. if b then f r else 0) is in
      let all : sum_by (if_named f m) (r ∷ t) ≡ sum_by (if_named f m) t = omega (arith, own, sum_by-cons (if_named f m) r t) in
      all ∙ others ∙ ap (λ b. option_map_or f (if b then Some r else row_named t m) 0) (sym is)

-- A COUNTERPART'S NUMBER: the number of an item's counterpart is the sum over all rows that are the same item
abbrev pub hit : Devices → List ℕ → ItemId → Row → ℕ → ℕ
hit by m i r k = if bytes_eq r.name m then (if are_one by i r.id then k else 0) else 0

module _ (by : Devices) (t : List Row) (y : ItemData) (n : ItemId → ℕ) (d : Distinct t) where
  of_row : (r : Row) (o : Option Row) → row_of t r.id ≡ o → is_some o ≡ true → option_map_or (λ (x : ItemData). n x.view.id) (option_map (row_item t) o) 0 ≡ n r.id
  of_row r None is there = absurd cc
  of_row r (Some x) is there = ap n (row_id r.id t x is)

  of_test : (r : Row) (b : Bool) → is_there t r.id ≡ true → option_map_or (λ (x : ItemData). n x.view.id) (if b then item_of t r.id else None) 0 ≡ (if b then n r.id else 0)
  of_test r true there = of_row r (row_of t r.id) refl there
  of_test r false there = refl

  counterpart_number : option_map_or (λ (x : ItemData). n x.view.id) (counterpart by t y) 0 ≡ option_map_or (λ (r : Row). if are_one by y.view.id r.id then n r.id else 0) (row_named t y.view.name) 0
  unfolding counterpart
  counterpart_number = by_row (row_named t y.view.name) refl where
    by_row : (o : Option Row) → row_named t y.view.name ≡ o
        → option_map_or (λ (x : ItemData). n x.view.id) (option_and_then (if_one by t y.view.id) (option_map (λ (r : Row). r.id) o)) 0 ≡ option_map_or (λ (r : Row). if are_one by y.view.id r.id then n r.id else 0) o 0
    by_row None is = refl
    by_row (Some r) is = of_test r (are_one by y.view.id r.id) (named_there t y.view.name r.id d (ap (option_map (λ (x : Row). x.id)) is))

  pub counterpart_sum : DistinctNames t → option_map_or (λ (x : ItemData). n x.view.id) (counterpart by t y) 0 ≡ sum_by (λ (r : Row). hit by y.view.name y.view.id r (n r.id)) t
  counterpart_sum names = counterpart_number ∙ sym (named_sum (λ (r : Row). if are_one by y.view.id r.id then n r.id else 0) y.view.name t names)

-- being the same item is symmetric: if it holds for two items, it holds for them in the other order
name_turned : (m n : List ℕ) → bytes_eq m n ≡ bytes_eq n m
name_turned m n = by_tests (bytes_eq m n) (bytes_eq n m) refl refl where
  by_tests : (b c : Bool) → bytes_eq m n ≡ b → bytes_eq n m ≡ c → b ≡ c
  by_tests true true p q = refl
  by_tests false false p q = refl
  by_tests true false p q = sym (bytes_itself n) ∙ ap (bytes_eq n) (sym (bytes_equal m n p)) ∙ q
  by_tests false true p q = sym p ∙ ap (bytes_eq m) (bytes_equal n m q) ∙ bytes_itself m

device_turned : (by : Devices) (d e : ℕ) → is_one_device by d e ≡ is_one_device by e d
device_turned ById d e = eqb_turned d e
device_turned ByName d e = refl

one_turned : (by : Devices) (i j : ItemId) → are_one by i j ≡ are_one by j i
one_turned by (Device d) (Device e) = device_turned by d e
one_turned by (Device d) (Bucket b) = refl
one_turned by (Bucket b) (Device d) = refl
one_turned by (Bucket b) (Bucket c) = refl

hit_turned : (by : Devices) (r s : Row) (k : ℕ) → hit by s.name s.id r k ≡ hit by r.name r.id s k
hit_turned by r s k = λ i. if name_turned r.name s.name i then (if one_turned by s.id r.id i then k else 0) else 0

-- ENTRIES OF A TABLE: a sum over the items of all entries is the sum over the rows
entries_sum : (g : ItemData → ℕ) (t : List Row) (es : List EntryData) → Distinct t → HasEntries t es → sum_by (λ (e : EntryData). g e.item) es ≡ sum_by (λ (r : Row). g (row_item t r)) t
entries_sum g t es d has = told_sum es has.told ∙ has.ids value ∙ found_sum t (All-found t d) where
  value : ItemId → ℕ
  value i = option_map_or g (item_of t i) 0

  told_sum : (xs : List EntryData) → All (λ e. entry_of t (entry_id e) ≡ Some e) xs → sum_by (λ (e : EntryData). g e.item) xs ≡ sum_by (λ (e : EntryData). value (entry_id e)) xs
  told_sum [] told = refl
  told_sum (e ∷ xs) told =
      let own : value (entry_id e) ≡ g e.item =
      ap (λ o. option_map_or g o 0) (sym (entry_item t (entry_id e)) ∙ ap (option_map (λ (x : EntryData). x.item)) (All-head (λ x. entry_of t (entry_id x) ≡ Some x) e xs told)) in
      omega (arith, own, told_sum xs (All-tail (λ x. entry_of t (entry_id x) ≡ Some x) e xs told), sum_by-cons (λ (x : EntryData). g x.item) e xs, sum_by-cons (λ (x : EntryData). value (entry_id x)) e xs)

  found_sum : (rs : List Row) → All (λ (r : Row). row_of t r.id ≡ Some r) rs → sum_by (λ (r : Row). value r.id) rs ≡ sum_by (λ (r : Row). g (row_item t r)) rs
  found_sum [] found = refl
  found_sum (r ∷ rs) found =
      let own : value r.id ≡ g (row_item t r) = ap (λ o. option_map_or g (option_map (row_item t) o) 0) (All-head (λ (x : Row). row_of t x.id ≡ Some x) r rs found) in
      omega (arith, own, found_sum rs (All-tail (λ (x : Row). row_of t x.id ≡ Some x) r rs found), sum_by-cons (λ (x : Row). value x.id) r rs, sum_by-cons (λ (x : Row). g (row_item t x)) r rs)

-- WHAT IS BEFORE: the items in the fields `before` of the pairs are the counterparts of the new items, and the old items that have no counterpart
module _ (by : Devices) (t u : List Row) where
  abbrev befores : List PairData → List ItemData
  befores ps = filter_map (λ (p : PairData). p.before) ps

  abbrev afters : List PairData → List ItemData
  afters ps = filter_map (λ (p : PairData). p.after) ps

  abbrev news : List EntryData → List PairData
  news fs = flat_map (λ (e : EntryData). new_pair by None t u e.item) fs

  abbrev olds : List EntryData → List PairData
  olds es = flat_map (λ (e : EntryData). old_pair by None t u e.item) es

  new_sum : (h : ItemData → ℕ) (fs : List EntryData) → sum_by h (befores (news fs)) ≡ sum_by (λ (e : EntryData). option_map_or h (counterpart by t e.item) 0) fs
  new_sum h [] = refl
  new_sum h (e ∷ fs) = step (counterpart by t e.item) (befores (news fs)) ∙ ap (λ m. option_map_or h (counterpart by t e.item) 0 + m) (new_sum h fs) ∙ sym (sum_by-cons (λ (x : EntryData). option_map_or h (counterpart by t x.item) 0) e fs) where
    step : (o : Option ItemData) (xs : List ItemData) → sum_by h (cons_option o xs) ≡ option_map_or h o 0 + sum_by h xs
    step None xs = omega arith
    step (Some x) xs = sum_by-cons h x xs

  old_sum : (h : ItemData → ℕ) (es : List EntryData) → sum_by h (befores (olds es)) ≡ sum_by (λ (e : EntryData). if not (is_some (counterpart by u e.item)) then h e.item else 0) es
  old_sum h [] = refl
  old_sum h (e ∷ es) = step (not (is_some (counterpart by u e.item))) ∙ ap (λ m. (if not (is_some (counterpart by u e.item)) then h e.item else 0) + m) (old_sum h es) ∙ sym (sum_by-cons (λ (x : EntryData). if not (is_some (counterpart by u x.item)) then h x.item else 0) e es) where
    own : PairData
    own = record { before = Some e.item; after = None }

    step : (b : Bool) → sum_by h (befores ((if b then own ∷ [] else []) ++ olds es)) ≡ (if b then h e.item else 0) + sum_by h (befores (olds es))
    step true = sum_by-cons h e.item (befores (olds es))
    step false = omega arith

  after_new : (fs : List EntryData) → afters (news fs) ≡ map (λ (e : EntryData). e.item) fs
  after_new [] = refl
  after_new (e ∷ fs) = ap (λ (l : List ItemData). e.item ∷ l) (after_new fs)

  after_old : (es : List EntryData) → afters (olds es) ≡ []
  after_old [] = refl
  after_old (e ∷ es) = step (not (is_some (counterpart by u e.item))) (after_old es) where
    own : PairData
    own = record { before = Some e.item; after = None }

    step : (b : Bool) → afters (olds es) ≡ [] → afters ((if b then own ∷ [] else []) ++ olds es) ≡ []
    step true rest = rest
    step false rest = rest

  -- each of these items is what the old table says about its id
  abbrev Told : List Row → ItemData → Type 0
  Told s x = item_of s x.view.id ≡ Some x

  counterpart_told : (y : ItemData) → IfSome (counterpart by t y) (Told t)
  unfolding counterpart
  counterpart_told y = by_id (id_named t y.view.name) where
    by_row : (j : ItemId) (o : Option Row) → row_of t j ≡ o → IfSome (option_map (row_item t) o) (Told t)
    by_row j None is = tt
    by_row j (Some r) is = ap (option_map (row_item t)) (ap (row_of t) (row_id j t r is) ∙ is)

    by_test : (j : ItemId) (b : Bool) → IfSome (if b then item_of t j else None) (Told t)
    by_test j true = by_row j (row_of t j) refl
    by_test j false = tt

    by_id : (o : Option ItemId) → IfSome (option_and_then (if_one by t y.view.id) o) (Told t)
    by_id None = tt
    by_id (Some j) = by_test j (are_one by y.view.id j)

  told_item_of : (s : List Row) (e : EntryData) → entry_of s (entry_id e) ≡ Some e → Told s e.item
  told_item_of s e told = sym (entry_item s (entry_id e)) ∙ ap (option_map (λ (x : EntryData). x.item)) told

  new_told : (fs : List EntryData) → All (Told t) (befores (news fs))
  new_told [] = All-nil (Told t)
  new_told (e ∷ fs) = step (counterpart by t e.item) (counterpart_told e.item) (new_told fs) where
    step : (o : Option ItemData) → IfSome o (Told t) → All (Told t) (befores (news fs)) → All (Told t) (cons_option o (befores (news fs)))
    step None told rest = rest
    step (Some x) told rest = All-cons (Told t) x (befores (news fs)) told rest

  old_told : (es : List EntryData) → All (λ e. entry_of t (entry_id e) ≡ Some e) es → All (Told t) (befores (olds es))
  old_told [] told = All-nil (Told t)
  old_told (e ∷ es) told =
      step (not (is_some (counterpart by u e.item))) (told_item_of t e (All-head (λ x. entry_of t (entry_id x) ≡ Some x) e es told)) (old_told es (All-tail (λ x. entry_of t (entry_id x) ≡ Some x) e es told)) where
        own : PairData
        own = record { before = Some e.item; after = None }

        step : (b : Bool) → Told t e.item → All (Told t) (befores (olds es)) → All (Told t) (befores ((if b then own ∷ [] else []) ++ olds es))
        step true here rest = All-cons (Told t) e.item (befores (olds es)) here rest
        step false here rest = rest

  items_told : (fs : List EntryData) → All (λ e. entry_of u (entry_id e) ≡ Some e) fs → All (Told u) (map (λ (e : EntryData). e.item) fs)
  items_told [] told = All-nil (Told u)
  items_told (e ∷ fs) told =
      All-cons (Told u) e.item (map (λ (x : EntryData). x.item) fs) (told_item_of u e (All-head (λ x. entry_of u (entry_id x) ≡ Some x) e fs told)) (items_told fs (All-tail (λ x. entry_of u (entry_id x) ≡ Some x) e fs told))

  -- each row of the old table counts once: as the counterpart of a new row, or as an item without counterpart
  either_way : (k : ℕ) (o : Option ItemData) → option_map_or (λ (x : ItemData). k) o 0 + (if not (is_some o) then k else 0) ≡ k
  either_way k None = omega arith
  either_way k (Some x) = omega arith

  row_once : (n : ItemId → ℕ) (r : Row) → Lawful u → sum_by (λ (s : Row). hit by s.name s.id r (n r.id)) u + (if not (is_some (counterpart by u (row_item t r))) then n r.id else 0) ≡ n r.id
  row_once n r lawful =
      ap (λ m. m + (if not (is_some (counterpart by u (row_item t r))) then n r.id else 0))
      (sum_by-agree (λ (s : Row). hit by s.name s.id r (n r.id)) (λ (s : Row). hit by r.name r.id s (n r.id)) (λ s. hit_turned by r s (n r.id)) u
      ∙ sym (counterpart_sum by u (row_item t r) (λ i. n r.id) lawful.ids lawful.names))
      ∙ either_way (n r.id) (counterpart by u (row_item t r))

  before_ids : (es fs : List EntryData) (n : ItemId → ℕ) → Lawful t → Lawful u → HasEntries t es → HasEntries u fs
      → sum_by (λ (x : ItemData). n x.view.id) (befores (news fs ++ olds es)) ≡ sum_by (λ (r : Row). n r.id) t
  before_ids es fs n lawful_t lawful_u has_t has_u =
      let number : ItemData → ℕ = λ x. n x.view.id in
      let alone : Row → ℕ = λ r. if not (is_some (counterpart by u (row_item t r))) then n r.id else 0 in
      let new : sum_by number (befores (news fs)) ≡ sum_by (λ (r : Row). sum_by (λ (s : Row). hit by s.name s.id r (n r.id)) u) t =
      new_sum number fs ∙ entries_sum (λ y. option_map_or number (counterpart by t y) 0) u fs lawful_u.ids has_u
      ∙ sum_by-agree _ _ (λ s. counterpart_sum by t (row_item u s) n lawful_t.ids lawful_t.names) u
      ∙ sum_by-swap (λ (s r : Row). hit by s.name s.id r (n r.id)) u t in
      let old : sum_by number (befores (olds es)) ≡ sum_by alone t =
      old_sum number es ∙ entries_sum (λ x. if not (is_some (counterpart by u x)) then n x.view.id else 0) t es lawful_t.ids has_t in
      ap (sum_by number) (filter_map-append (λ (p : PairData). p.before) (news fs) (olds es)) ∙ sum_by-append number (befores (news fs)) (befores (olds es)) ∙ (λ i. new i + old i)
      ∙ sym (sum_by-plus (λ (r : Row). sum_by (λ (s : Row). hit by s.name s.id r (n r.id)) u) alone t) ∙ sum_by-agree _ _ (λ r. row_once n r lawful_u) t

  -- EACH ITEM ONCE: each item of either table is in exactly one pair
  pub each_once : (es fs : List EntryData) → Lawful t → Lawful u → HasEntries t es → HasEntries u fs → HasEachOnce t u (news fs ++ olds es)
  each_once es fs lawful_t lawful_u has_t has_u =
      let after : afters (news fs ++ olds es) ≡ map (λ (e : EntryData). e.item) fs =
      filter_map-append (λ (p : PairData). p.after) (news fs) (olds es) ∙ (λ i. after_new fs i ++ after_old es i) ∙ append-nil (map (λ (e : EntryData). e.item) fs) in
      record {
        before = record {
          told = subst (All (Told t)) (sym (filter_map-append (λ (p : PairData). p.before) (news fs) (olds es))) (All-append (Told t) (befores (news fs)) (befores (olds es)) (new_told fs) (old_told es has_t.told));
          ids = λ n. before_ids es fs n lawful_t lawful_u has_t has_u;
        };
        after = record {
          told = subst (All (Told u)) (sym after) (items_told fs has_u.told);
          ids = λ n. ap (sum_by (λ (x : ItemData). n x.view.id)) after ∙ sum_by-map (λ (x : ItemData). n x.view.id) (λ (e : EntryData). e.item) fs ∙ has_u.ids n;
        };
      }
