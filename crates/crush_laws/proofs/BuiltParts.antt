-- The table while the printed buckets are read: which rows it has, and which of its items already have their final parent.
use Rattle.std.proofs.Common.{◌≡◌, ℕ, ◌≤◌, Bool, true, false, List, [], ◌∷◌, ◌++◌, Option, Some, None, refl, sym, ap, subst, ◌∙◌, append-nil, arith}
use Rattle.std.proofs.lemmas.Bool.{or_parts, eqb-true}
use Rattle.std.proofs.lemmas.List.Elements.{All-head, All-tail, All-weaker}
use Rattle.std.specs.Prelude.{All, IfSome, map, filter, ◌||◌, ◌==◌, option_and_then, is_some, if◌then◌else◌}
use Rattle.std.specs.List.{count_by}
use Rattle.std.specs.Option.{option_map}
use Rattle.crush_units.specs.declared.id.ItemId.{ItemId}
use Rattle.crush_units.specs.declared.id.ItemId.TheVariants.{Device, Bucket}
use Rattle.crush_units.specs.Id.{same_id, is_device_id}
use Rattle.crush_units.proofs.Ids.{same_id_equal}
use Rattle.crush_model.specs.Count.{one_if}
use Rattle.crush_model.specs.Columns.{without_row}
use Rattle.crush_model.specs.Lawful.{Lawful, IsRow, IsRowOf, HasParent}
use Rattle.crush_model.specs.Reordered.{IsReordered}
use Rattle.crush_model.specs.Same.{Same}
use Rattle.crush_model.specs.Table.{Row, row_of, is_there, parent_of, is_parent, kids}
use Rattle.crush_model.proofs.Reorder.{sum_by-map}
use Rattle.crush_model.proofs.Weighs.{All-found, All-both}
use Rattle.crush_model.proofs.Moved.{row_id}
use Rattle.crush_model.proofs.Climbs.{eqb_turned, parent_there}
use Rattle.crush_model.proofs.Changes.{kids-append}
use Rattle.crush_model.proofs.Removed.{only, sum_by-filter_le}
use Rattle.crush_model.proofs.Relocated.{All-kids}
use Rattle.crush_print.proofs.PartTables.{bare, shown, shown-id, part_of}
use Rattle.crush_print.proofs.PartSteps.{with_one, IsClosed, kids-put}
use Rattle.crush_print.proofs.PartRows.{rows_lawful, rows_found, rows_more, rows_put}
use Rattle.crush_print.proofs.PrintedOrder.{add}

-- the items that each bucket has, if the buckets in `seen` were read and no bucket is open
abbrev pub whole_kids : List Row → (ℕ → Bool) → ℕ → List ItemId
whole_kids t seen c = if seen c then kids t c else []

-- the items that each bucket has, if one more bucket is open and has some of its items
abbrev pub open_kids : List Row → (ℕ → Bool) → ℕ → List ItemId → ℕ → List ItemId
open_kids t seen b ds c = if b == c then ds else whole_kids t seen c

-- the table u has the items for which q is true. Those for which P is true have their final parent: all items of the buckets that were read (`seen`), and
-- some items of the other buckets that the table has (`there`)
pub record IsRead (t : List Row) (seen there : ℕ → Bool) (q P : ItemId → Bool) (items : ℕ → List ItemId) (u : List Row) : Type 0 where
  pub devices : (i : ItemId) → is_device_id i ≡ true → q i ≡ true
  pub buckets : (j : ℕ) → q (Bucket j) ≡ there j
  pub full : (c : ℕ) (i : ItemId) → seen c ≡ true → parent_of t i ≡ Some c → P i ≡ true
  pub done : (j : ℕ) → P (Bucket j) ≡ true → seen j ≡ true
  pub loose : (i : ItemId) (p : ℕ) → there p ≡ false → parent_of t i ≡ Some p → P i ≡ false
  pub rows : IsReordered (part_of q P t) u
  pub kids : (c : ℕ) → kids u c ≡ items c

-- no test has two results
pub both_ways : (b : Bool) → b ≡ true → b ≡ false → ⊥
both_ways b e f = let no : true ≡ false = sym e ∙ f in cc

-- if the second of two tests is true, then one of the two is true
or_right : (a b : Bool) → b ≡ true → (a || b) ≡ true
or_right true b h = refl
or_right false b h = h

or_none : (a : Bool) → (a || false) ≡ a
or_none true = refl
or_none false = refl

module _ (t : List Row) (l : Lawful t) (seen there : ℕ → Bool) (q P : ItemId → Bool) (items : ℕ → List ItemId) (u : List Row) (r : IsRead t seen there q P items u) where
  held : (p : ℕ) (i : ItemId) → P i ≡ true → parent_of t i ≡ Some p → q (Bucket p) ≡ true
  held p i h e = by_it (there p) refl
    where
      by_it : (b : Bool) → there p ≡ b → q (Bucket p) ≡ true
      by_it true k = r.buckets p ∙ k
      by_it false k = absurd (both_ways (P i) h (r.loose i p k e))

  -- if an item has its final parent, then the table has this parent
  pub read_closed : IsClosed t l q P
  read_closed i p a h e = held p i h e

  pub read_more : (j : ItemId) → IsClosed t l (with_one q j) P
  read_more j i p a h e = ap (λ b. b || same_id (Bucket p) j) (held p i h e)

  -- the table is lawful
  pub read_lawful : Lawful u
  read_lawful = rows_lawful t l q P read_closed u r.rows

  -- the row of an item that is in the table without a parent
  pub read_row : (i : ItemId) (x : Row) → row_of t i ≡ Some x → q i ≡ true → P i ≡ false → row_of u i ≡ Some (bare x)
  read_row i x found a h =
      let none : P x.id ≡ false = ap P (row_id i t x found) ∙ h in
      rows_found t l q P read_closed u r.rows i ∙ (λ k. if a k then option_map (shown P) (found k) else None) ∙ ap (λ b. Some (if b then x else bare x)) none

-- A BUCKET IS OPENED: its row is appended to the table
module _ (t : List Row) (l : Lawful t) (b : ℕ) (x : Row) (found : row_of t (Bucket b) ≡ Some x) (seen : ℕ → Bool) (q P : ItemId → Bool) (u : List Row) (r : IsRead t seen seen q P (whole_kids t seen) u) (new : seen b ≡ false) where
  pub fresh : q (Bucket b) ≡ false
  fresh = r.buckets b ∙ new

  pub unplaced : P (Bucket b) ≡ false
  unplaced = by_it (P (Bucket b)) refl
    where
      by_it : (v : Bool) → P (Bucket b) ≡ v → P (Bucket b) ≡ false
      by_it true e = absurd (both_ways (seen b) (r.done b e) new)
      by_it false e = e

  empty : (c : ℕ) → whole_kids t seen c ≡ open_kids t seen b [] c
  empty c = by_it (b == c) refl
    where
      by_it : (v : Bool) → (b == c) ≡ v → whole_kids t seen c ≡ (if v then [] else whole_kids t seen c)
      by_it true e = ap (λ v. if v then kids t c else []) (ap seen (sym (eqb-true b c e)) ∙ new)
      by_it false e = refl

  pub read_opened : IsRead t seen (add seen b) (with_one q (Bucket b)) P (open_kids t seen b []) (u ++ bare x ∷ [])
  read_opened = record {
    devices = λ i h. ap (λ v. v || same_id i (Bucket b)) (r.devices i h);
    buckets = λ j. λ k. r.buckets j k || eqb_turned j b k;
    full = r.full;
    done = r.done;
    loose = λ i p h e. r.loose i p (or_parts (seen p) (b == p) h).0 e;
    rows = rows_more t l q P (read_closed t l seen seen q P (whole_kids t seen) u r) u r.rows (Bucket b) x (read_more t l seen seen q P (whole_kids t seen) u r (Bucket b)) fresh unplaced found;
    kids = λ c. kids-append u (bare x ∷ []) c ∙ append-nil (kids u c) ∙ r.kids c ∙ empty c;
  }

-- AN ITEM IS PUT into the open bucket: it gets its final parent
module _ (t : List Row) (l : Lawful t) (b : ℕ) (i : ItemId) (x : Row) (found : row_of t i ≡ Some x) (in_it : x.parent ≡ Some b) (seen : ℕ → Bool) (q P : ItemId → Bool) (ds : List ItemId) (u : List Row) (r : IsRead t seen (add seen b) q P (open_kids t seen b ds) u)
    (open_there : q (Bucket b) ≡ true) (there : q i ≡ true) (free : P i ≡ false) (ready : (j : ℕ) → i ≡ Bucket j → seen j ≡ true) where
  placed_in : parent_of t i ≡ Some b
  placed_in = ap (option_and_then (λ (y : Row). y.parent)) found ∙ in_it

  put_closed : IsClosed t l q (with_one P i)
  put_closed j p a h e = by_id (P j) (same_id j i) refl refl h
    where
      by_id : (v w : Bool) → P j ≡ v → same_id j i ≡ w → (v || w) ≡ true → q (Bucket p) ≡ true
      by_id true w k m n = held t l seen (add seen b) q P (open_kids t seen b ds) u r p j k e
      by_id false true k m n =
          let up : Some p ≡ Some b = sym e ∙ ap (parent_of t) (same_id_equal j i m) ∙ placed_in in
          let same : p ≡ b = cc in
          ap (λ c. q (Bucket c)) same ∙ open_there
      by_id false false k m n = absurd (let no : false ≡ true = n in cc)

  put_done : (j : ℕ) → with_one P i (Bucket j) ≡ true → seen j ≡ true
  put_done j h = by_id (P (Bucket j)) (same_id (Bucket j) i) refl refl h
    where
      by_id : (v w : Bool) → P (Bucket j) ≡ v → same_id (Bucket j) i ≡ w → (v || w) ≡ true → seen j ≡ true
      by_id true w k m n = r.done j k
      by_id false true k m n = ready j (sym (same_id_equal (Bucket j) i m))
      by_id false false k m n = absurd (let no : false ≡ true = n in cc)

  put_loose : (j : ItemId) (p : ℕ) → add seen b p ≡ false → parent_of t j ≡ Some p → with_one P i j ≡ false
  put_loose j p h e = by_id (same_id j i) refl
    where
      by_id : (w : Bool) → same_id j i ≡ w → (P j || w) ≡ false
      by_id true m =
          let up : Some p ≡ Some b = sym e ∙ ap (parent_of t) (same_id_equal j i m) ∙ placed_in in
          let same : p ≡ b = cc in
          absurd (both_ways (b == p) (ap (λ c. b == c) same ∙ itself b) (or_parts (seen p) (b == p) h).1)
        where
          itself : (n : ℕ) → (n == n) ≡ true
          itself n = grind arith
      by_id false m = or_none (P j) ∙ r.loose j p h e

  put_kids : (c : ℕ) → kids (without_row i u ++ x ∷ []) c ≡ open_kids t seen b (ds ++ i ∷ []) c
  put_kids c =
      let lawful = read_lawful t l seen (add seen b) q P (open_kids t seen b ds) u r in
      let bare_row = read_row t l seen (add seen b) q P (open_kids t seen b ds) u r i x found there free in
      kids-put u i x c lawful (ap (option_and_then (λ (y : Row). y.parent)) bare_row) (row_id i t x found)
      ∙ (λ k. r.kids c k ++ (if is_parent c (in_it k) then i ∷ [] else []))
      ∙ by_it (b == c)
    where
      by_it : (v : Bool) → (if v then ds else whole_kids t seen c) ++ (if v then i ∷ [] else []) ≡ (if v then ds ++ i ∷ [] else whole_kids t seen c)
      by_it true = refl
      by_it false = append-nil (whole_kids t seen c)

  pub read_put : IsRead t seen (add seen b) q (with_one P i) (open_kids t seen b (ds ++ i ∷ [])) (without_row i u ++ x ∷ [])
  read_put = record {
    devices = r.devices;
    buckets = r.buckets;
    full = λ c j h e. ap (λ v. v || same_id j i) (r.full c j h e);
    done = put_done;
    loose = put_loose;
    rows = rows_put t l q P (read_closed t l seen (add seen b) q P (open_kids t seen b ds) u r) u r.rows i x put_closed there found;
    kids = put_kids;
  }

-- THE BUCKET IS CLOSED: what holds for all items in its list holds for each item whose parent it is
kid_among : (Q : ItemId → Type 0) (u : List Row) (b : ℕ) (i : ItemId) → All Q (kids u b) → parent_of u i ≡ Some b → Q i
kid_among Q [] b i a e = absurd (let no : ◌≡◌ {A = Option ℕ} None (Some b) = e in cc)
kid_among Q (r ∷ u) b i a e = by_id (same_id r.id i) (is_parent b r.parent) refl refl e a (λ x y. kid_among Q u b i x y)
  where
    itself : (n : ℕ) → (n == n) ≡ true
    itself n = grind arith

    by_id : (v w : Bool) → same_id r.id i ≡ v → is_parent b r.parent ≡ w → option_and_then (λ (y : Row). y.parent) (if v then Some r else row_of u i) ≡ Some b → All Q (map (λ (y : Row). y.id) (if w then r ∷ filter (λ (y : Row). is_parent b y.parent) u else filter (λ (y : Row). is_parent b y.parent) u))
        → (All Q (kids u b) → parent_of u i ≡ Some b → Q i) → Q i
    by_id true true k m h all rest = subst Q (same_id_equal r.id i k) (All-head Q r.id (kids u b) all)
    by_id true false k m h all rest = absurd (both_ways (is_parent b r.parent) (ap (is_parent b) h ∙ itself b) m)
    by_id false true k m h all rest = rest (All-tail Q r.id (kids u b) all) h
    by_id false false k m h all rest = rest all h

module _ (t : List Row) (b : ℕ) (seen : ℕ → Bool) (q P : ItemId → Bool) (u : List Row) (r : IsRead t seen (add seen b) q P (open_kids t seen b (kids t b)) u) (placed : All (λ (k : ItemId). P k ≡ true) (kids t b)) where
  pub read_ended : IsRead t (add seen b) (add seen b) q P (whole_kids t (add seen b)) u
  read_ended = record {
    devices = r.devices;
    buckets = r.buckets;
    full = λ c i h e. full c i (seen c) (b == c) refl refl h e;
    done = λ j h. ap (λ v. v || (b == j)) (r.done j h);
    loose = r.loose;
    rows = r.rows;
    kids = λ c. r.kids c ∙ items c (seen c) (b == c) refl refl;
  } where
    full : (c : ℕ) (i : ItemId) (v w : Bool) → seen c ≡ v → (b == c) ≡ w → (v || w) ≡ true → parent_of t i ≡ Some c → P i ≡ true
    full c i true w k m h e = r.full c i k e
    full c i false true k m h e = kid_among (λ (j : ItemId). P j ≡ true) t b i placed (e ∙ ap (λ (n : ℕ). Some n) (sym (eqb-true b c m)))
    full c i false false k m h e = absurd (let no : false ≡ true = h in cc)

    items : (c : ℕ) (v w : Bool) → seen c ≡ v → (b == c) ≡ w → open_kids t seen b (kids t b) c ≡ whole_kids t (add seen b) c
    items c v true k m = (λ j. if m j then kids t b else whole_kids t seen c) ∙ ap (kids t) (eqb-true b c m) ∙ sym ((λ j. if seen c || m j then kids t c else []) ∙ (λ j. if or_right (seen c) true refl j then kids t c else []))
    items c v false k m = (λ j. if m j then kids t b else whole_kids t seen c) ∙ sym ((λ j. if seen c || m j then kids t c else []) ∙ (λ j. if or_none (seen c) j then kids t c else []))

-- each item is in its parent's list once
pub kids_once : (t : List Row) → Lawful t → (b : ℕ) (i : ItemId) → count_by (λ (j : ItemId). same_id j i) (kids t b) ≤ 1
kids_once t l b i = omega (
  arith,
  l.ids i,
  sum_by-map (λ (j : ItemId). one_if (same_id j i)) (λ (r : Row). r.id) (filter (λ (r : Row). is_parent b r.parent) t),
  sum_by-filter_le (λ (r : Row). is_parent b r.parent) (λ (r : Row). one_if (same_id r.id i)) t,
)

-- AT FIRST the table has the devices, without parents
pub first_read : (t u : List Row) → Same (part_of is_device_id (λ _. false) t) u → IsRead t (λ _. false) (λ _. false) is_device_id (λ _. false) (whole_kids t (λ _. false)) u
first_read t u same = record {
  devices = λ i h. h;
  buckets = λ j. refl;
  full = λ c i h e. h;
  done = λ j h. h;
  loose = λ i p h e. refl;
  rows = same.rows;
  kids = λ c. sym (same.kids c) ∙ none c t;
} where
  none : (c : ℕ) (xs : List Row) → kids (only is_device_id (map (shown (λ _. false)) xs)) c ≡ []
  none c [] = refl
  none c (x ∷ xs) = by_it (is_device_id x.id) (none c xs)
    where
      by_it : (v : Bool) → kids (only is_device_id (map (shown (λ _. false)) xs)) c ≡ [] → kids (if v then bare x ∷ only is_device_id (map (shown (λ _. false)) xs) else only is_device_id (map (shown (λ _. false)) xs)) c ≡ []
      by_it true h = h
      by_it false h = h

-- AT LAST each item has its final parent
weighs_none : (i : ItemId) (x : Row) → IsRowOf i x → x.parent ≡ None → x.weight ≡ 0
weighs_none (Device d) x f e = f.unplaced e
weighs_none (Bucket b) x f e = f.weight

rows_whole : (q P : ItemId → Bool) (xs : List Row) → All (λ (x : Row). (q x.id ≡ true) × (shown P x ≡ x)) xs → only q (map (shown P) xs) ≡ xs
rows_whole q P [] a = refl
rows_whole q P (x ∷ xs) a =
    let h = All-head (λ (y : Row). (q y.id ≡ true) × (shown P y ≡ y)) x xs a in
    let rest = rows_whole q P xs (All-tail (λ (y : Row). (q y.id ≡ true) × (shown P y ≡ y)) x xs a) in
    (λ k. if (ap q (shown-id P x) ∙ h.0) k then shown P x ∷ only q (map (shown P) xs) else only q (map (shown P) xs)) ∙ (λ k. h.1 k ∷ rest k)

module _ (t : List Row) (l : Lawful t) (seen : ℕ → Bool) (q P : ItemId → Bool) (u : List Row) (r : IsRead t seen seen q P (whole_kids t seen) u) (all : (j : ℕ) → seen j ≡ is_there t (Bucket j)) where
  has_it : (i : ItemId) → is_there t i ≡ true → q i ≡ true
  has_it (Device d) h = r.devices (Device d) refl
  has_it (Bucket j) h = r.buckets j ∙ all j ∙ h

  shown_whole : (x : Row) → IsRow x → HasParent t x → row_of t x.id ≡ Some x → shown P x ≡ x
  shown_whole x f up found = by_parent x.parent refl up
    where
      by_test : (v : Bool) → P x.id ≡ v → (v ≡ false → bare x ≡ x) → (if v then x else bare x) ≡ x
      by_test true e h = refl
      by_test false e h = h refl

      root : x.parent ≡ None → bare x ≡ x
      root e = let w = weighs_none x.id x f.form e in λ k. record x { parent = sym e k; weight = sym w k }

      by_parent : (o : Option ℕ) → x.parent ≡ o → IfSome o (λ p. is_there t (Bucket p) ≡ true) → shown P x ≡ x
      by_parent None e h = by_test (P x.id) refl (λ k. root e)
      by_parent (Some p) e h =
          let placed : P x.id ≡ true = r.full p x.id (all p ∙ h) (ap (option_and_then (λ (y : Row). y.parent)) found ∙ e) in
          ap (λ v. if v then x else bare x) placed

  part_whole : part_of q P t ≡ t
  part_whole = rows_whole q P t (All-weaker (λ (x : Row). (IsRow x × HasParent t x) × (row_of t x.id ≡ Some x)) (λ (x : Row). (q x.id ≡ true) × (shown P x ≡ x))
      (λ x h. (has_it x.id (ap is_some h.1), shown_whole x h.0.0 h.0.1 h.1)) t
      (All-both (λ (x : Row). IsRow x × HasParent t x) (λ (x : Row). row_of t x.id ≡ Some x) t (All-both IsRow (HasParent t) t l.rows l.parents) (All-found t l.ids)))

  no_kids : (c : ℕ) → is_there t (Bucket c) ≡ false → kids t c ≡ []
  no_kids c gone = by_list (kids t c) (All-kids t l c)
    where
      up : (o : Option ℕ) → o ≡ Some c → IfSome o (λ p. is_there t (Bucket p) ≡ true) → is_there t (Bucket c) ≡ true
      up o e h = subst (λ (v : Option ℕ). IfSome v (λ p. is_there t (Bucket p) ≡ true)) e h

      by_list : (ks : List ItemId) → All (λ (j : ItemId). parent_of t j ≡ Some c) ks → ks ≡ []
      by_list [] a = refl
      by_list (j ∷ ks) a = absurd (both_ways (is_there t (Bucket c)) (up (parent_of t j) (All-head (λ (k : ItemId). parent_of t k ≡ Some c) j ks a) (parent_there t t l.parents j)) gone)

  pub read_whole : Same t u
  read_whole = record {
    rows = subst (λ (z : List Row). IsReordered z u) part_whole r.rows;
    kids = λ c. sym (r.kids c ∙ by_it c (seen c) refl);
  } where
    by_it : (c : ℕ) (v : Bool) → seen c ≡ v → whole_kids t seen c ≡ kids t c
    by_it c true e = ap (λ v. if v then kids t c else []) e
    by_it c false e = ap (λ v. if v then kids t c else []) e ∙ sym (no_kids c (sym (all c) ∙ e))
