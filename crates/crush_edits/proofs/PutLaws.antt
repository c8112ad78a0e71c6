-- The laws of items put at the end of a route.
use Rattle.std.proofs.Common.{◌≡◌, ℕ, ◌+◌, ◌<◌, ◌≤◌, Bool, true, false, List, [], ◌∷◌, ◌++◌, length, take, drop, ap, sym, subst, ◌∙◌, refl, arith, eq-eqb, append_assoc, ⊎_elim}
use Rattle.std.specs.Prelude.{◌==◌, ◌||◌, not, if◌then◌else◌, Option, Some, None, IfSome, All, find, fold, is_some, option_and_then, bytes_eq, nat_le}
use Rattle.std.specs.List.{sum_by, count_by, list_any, position_or_len, prefix_len}
use Rattle.std.specs.Option.{option_map}
use Rattle.std.proofs.lemmas.List.Sums.{sum_by-cons, sum_by-append, sum_by_push, sum_by-take-le}
use Rattle.std.proofs.lemmas.List.Elements.{All-nil, All-cons, All-append, All-take, All-drop, All-filter, All-weaker}
use Rattle.crush_units.specs.declared.id.ItemId.{ItemId}
use Rattle.crush_units.specs.declared.id.ItemId.TheVariants.{Device, Bucket}
use Rattle.crush_units.specs.Id.{same_id}
use Rattle.crush_units.proofs.Ids.{same_id_tells, same_id_comm}
use Rattle.crush_model.specs.Items.{LeafData, Items, none, device}
use Rattle.crush_model.specs.ItemRows.{rows, device_row}
use Rattle.crush_model.specs.Table.{Row, is_device, is_bucket, row_of, is_there, id_named, is_named, parent_of, member, used_ids, free_ids, sum_below, total, device_count, bucket_count}
use Rattle.crush_model.specs.Same.{Same}
use Rattle.crush_model.specs.Law.{IsOne}
use Rattle.crush_model.specs.Lawful.{IsRow, Lawful, is_too_heavy, has_too_many}
use Rattle.crush_model.specs.Columns.{table_without, part, without_row}
use Rattle.crush_model.proofs.Reorder.{reordered-sym, reordered-count}
use Rattle.crush_model.specs.Count.{one_if}
use Rattle.crush_model.proofs.Found.{Distinct, times, times-append, times-absent, times-is_there, Distinct-same}
use Rattle.crush_model.proofs.Same.{Same-is, Same-trans, is_too_heavy-same}
use Rattle.crush_model.proofs.Moved.{last_row}
use Rattle.crush_model.proofs.Removed.{row_of-only}
use Rattle.crush_model.proofs.Attached.{is_there-append}
use Rattle.crush_edits.specs.declared.location.Pair.{Pair}
use Rattle.crush_edits.specs.Stops.{StopData, with_stop, stops, is_fresh, fresh_stops, receiver}
use Rattle.crush_edits.specs.Put.{NewData, new_buckets, next_up, chain, next_place, put_at, put, is_id, held}
use Rattle.crush_edits.specs.New.{IsRoute, AreNew}
use Rattle.crush_edits.specs.Setting.{KindData, SettingData, kind_number, taken_buckets}
use Rattle.crush_edits.specs.Fits.{HasKind, IsThere}
use Rattle.crush_edits.specs.LawPut.{route_boxes, IsApart, OnceIds, PutChanges, PutNewChanges, PutFits}
use Rattle.crush_edits.specs.LawRoute.{rows_made}
use Rattle.crush_edits.proofs.Boxes.{rows-boxes}
use Rattle.crush_edits.proofs.Chains.{new_rows, new_are, new-reordered, Lawful-with, sum_below-with, total-with, devices-with, distinct_with, ids-apart, chain-none, chain-sum, chain-All}
use Rattle.crush_edits.proofs.Differ.{differs}
use Rattle.crush_model.proofs.FreeIds.{free_ids-some}
use Rattle.crush_edits.proofs.Lawfuls.{few_too_many, room_put, Lawful-put_moved, put-new, Lawful-put_new}
use Rattle.crush_edits.proofs.Puts.{put-moved, put-moved_device, put-taken, put-boxed, put-boxed_device}
use Rattle.crush_edits.proofs.Routes.{with_ids-names, with_ids-All, new_buckets-length, route_fresh, route_next}

-- counting 1 for each new bucket gives their number
ones : (xs : List NewData) → sum_by (λ (n : NewData). 1) xs ≡ length xs
ones [] = refl
ones (x ∷ xs) = omega (arith, sum_by-cons (λ (n : NewData). 1) x xs, ones xs)

-- the nested new buckets have the rows that the table gets for them
module _ (t : List Row) (ps : List StopData) (l : Lawful t) (route : IsRoute t ps) where
  abbrev ns : List NewData
  ns = new_buckets t ps

  abbrev top : Option ℕ
  top = receiver t ps

  fresh : AreNew t (new_buckets t ps) (receiver t ps)
  fresh = route_fresh t ps l route

  abbrev with_boxes : List Row
  with_boxes = t ++ new_rows t l (new_buckets t ps) (receiver t ps) fresh 1

  with_are : with_boxes ≡ t ++ rows_made t ps
  with_are = ap (λ z. t ++ z) (new_are t l ns top fresh 1)

  pub new_lawful : has_too_many (t ++ rows_made t ps) ≡ false → Lawful (t ++ rows_made t ps)
  new_lawful room = subst Lawful with_are (Lawful-with t l ns top fresh 1 (ap has_too_many with_are ∙ room))

  pub new_sums : ((b : ℕ) → sum_below (t ++ rows_made t ps) b ≡ sum_below t b) × (total (t ++ rows_made t ps) ≡ total t)
  new_sums = (λ b. ap (λ z. sum_below z b) (sym with_are) ∙ sum_below-with t l ns top fresh 1 b, ap total (sym with_are) ∙ total-with t l ns top fresh 1)

  -- an item that the table has
  module _ (r : Row) (w : ℕ) (found : row_of t r.id ≡ Some r) where
    room_boxes : has_too_many (put t (record r { weight = w }) ps) ≡ false → has_too_many with_boxes ≡ false
    room_boxes room = room_put t l ns top fresh 1 r.id r (record r { parent = next_place t ps; weight = w }) found refl room

    pub room_new : has_too_many (put t (record r { weight = w }) ps) ≡ false → has_too_many (t ++ rows_made t ps) ≡ false
    room_new room = ap has_too_many (sym with_are) ∙ room_boxes room

    pub moves_device : IsApart t r.id ps → has_too_many (put t (record r { weight = w }) ps) ≡ false → (d : LeafData) → Same (rows None (device d none)) (part r.id (t ++ rows_made t ps))
        → Same (table_without r.id (t ++ rows_made t ps) ++ rows (next_place t ps) (device (record d { weight = w }) none)) (put t (record r { weight = w }) ps)
    moves_device apart room d whole =
        subst (λ z. Same (table_without r.id z ++ rows (next_place t ps) (device (record d { weight = w }) none)) (put t (record r { weight = w }) ps)) with_are
        (put-moved_device t l ns top fresh 1 (room_boxes room) r.id r found apart d w (subst (λ z. Same (rows None (device d none)) (part r.id z)) (sym with_are) whole))

    -- each id occurs once, in whichever order the rows are
    count_with : (p : Row → Bool) → p (record r { parent = next_place t ps; weight = w }) ≡ p r → count_by p with_boxes ≡ count_by p (put t (record r { weight = w }) ps)
    count_with p e =
        let both : one_if (p (record r { parent = next_place t ps; weight = w })) ≡ one_if (p r) = ap one_if e in
        omega (
          arith,
          both,
          sum_by-append (λ (x : Row). one_if (p x)) t (new_rows t l ns top fresh 1),
          reordered-count p (new-reordered t l ns top fresh 1),
          reordered-count p (last_row r.id t r (l.ids r.id) found),
          sum_by_push (λ (x : Row). one_if (p x)) (without_row r.id t) r,
          sum_by-append (λ (x : Row). one_if (p x)) (without_row r.id t) (chain ns top ++ record r { parent = next_place t ps; weight = w } ∷ []),
          sum_by_push (λ (x : Row). one_if (p x)) (chain ns top) (record r { parent = next_place t ps; weight = w }),
        )

    distinct_put : Distinct (put t (record r { weight = w }) ps)
    distinct_put j = omega (arith, distinct_with t l ns top fresh 1 j, count_with (λ (x : Row). same_id x.id j) refl)

    heavy_alike : (u : List Row) → Same u (put t (record r { weight = w }) ps) → OnceIds u × (is_too_heavy u ≡ is_too_heavy (put t (record r { weight = w }) ps))
    heavy_alike u same = let once : Distinct u = Distinct-same (reordered-sym same.rows) distinct_put in (once, is_too_heavy-same u (put t (record r { weight = w }) ps) same.rows once)

    pub boxed_device : (m : ℕ) → IsApart t r.id ps → has_too_many (put t (record r { weight = w }) ps) ≡ false → (d : LeafData) → Same (rows None (device d none)) (part r.id t)
        → OnceIds (table_without r.id t ++ rows (receiver t ps) (route_boxes m (device (record d { weight = w }) none) t ps))
        × (is_too_heavy (table_without r.id t ++ rows (receiver t ps) (route_boxes m (device (record d { weight = w }) none) t ps)) ≡ is_too_heavy (put t (record r { weight = w }) ps))
    boxed_device m apart room d whole =
        heavy_alike (table_without r.id t ++ rows (receiver t ps) (route_boxes m (device (record d { weight = w }) none) t ps))
        (put-boxed_device t l ns top fresh m (room_put t l ns top fresh m r.id r (record r { parent = next_place t ps; weight = w }) found refl room) r.id r found apart d w whole)

    pub counts_put : (device_count (put t (record r { weight = w }) ps) ≡ device_count t) × (bucket_count (put t (record r { weight = w }) ps) ≡ bucket_count t + length (fresh_stops t ps))
    counts_put = (sym (count_with is_device refl) ∙ devices-with t l ns top fresh 1, sym (count_with is_bucket refl) ∙ buckets_with) where
      buckets_with : bucket_count with_boxes ≡ bucket_count t + length (fresh_stops t ps)
      buckets_with =
          omega (
            arith,
            sum_by-append (λ (x : Row). one_if (is_bucket x)) t (new_rows t l ns top fresh 1),
            reordered-count is_bucket (new-reordered t l ns top fresh 1),
            chain-sum (λ (x : Row). one_if (is_bucket x)) (λ (n : NewData). 1) (λ q n. refl) ns top,
            ones ns,
            new_buckets-length t ps,
          )

    pub lawful_put : IsApart t r.id ps → ((b : ℕ) → IsRow (record r { parent = Some b; weight = w })) → is_too_heavy (put t (record r { weight = w }) ps) ≡ false → has_too_many (put t (record r { weight = w }) ps) ≡ false → Lawful (put t (record r { weight = w }) ps)
    lawful_put apart row light room =
        let next = route_next t ps route in
        Lawful-put_moved t l ns top fresh 1 r.id r next.0 w found next.1 apart (row next.0) light room

  -- any item that the table has, with everything below it
  pub moves : (r : Row) (n : Items) → row_of t r.id ≡ Some r → IsApart t r.id ps → has_too_many (put t r ps) ≡ false → IsOne n → Same (rows None n) (part r.id (t ++ rows_made t ps))
      → Same (table_without r.id (t ++ rows_made t ps) ++ rows (next_place t ps) n) (put t r ps)
  moves r n found apart room one whole =
      subst (λ z. Same (table_without r.id z ++ rows (next_place t ps) n) (put t r ps)) with_are
      (put-moved t l ns top fresh 1 (room_boxes r r.weight found room) r.id r found apart n one (subst (λ z. Same (rows None n) (part r.id z)) (sym with_are) whole))

  pub takes : (r : Row) (n : Items) → row_of t r.id ≡ Some r → IsApart t r.id ps → has_too_many (put t r ps) ≡ false → IsOne n → Same (rows None n) (part r.id t)
      → Same ((table_without r.id t ++ rows_made t ps) ++ rows (next_place t ps) n) (put t r ps)
  takes r n found apart room one whole =
      subst (λ z. Same ((table_without r.id t ++ z) ++ rows (next_place t ps) n) (put t r ps)) (new_are t l ns top fresh 1)
      (put-taken t l ns top fresh 1 (room_boxes r r.weight found room) r.id r found apart n one whole)

  pub boxed_item : (m : ℕ) (r : Row) (n : Items) → row_of t r.id ≡ Some r → IsApart t r.id ps → has_too_many (put t r ps) ≡ false → IsOne n → Same (rows None n) (part r.id t)
      → OnceIds (table_without r.id t ++ rows (receiver t ps) (route_boxes m n t ps)) × (is_too_heavy (table_without r.id t ++ rows (receiver t ps) (route_boxes m n t ps)) ≡ is_too_heavy (put t r ps))
  boxed_item m r n found apart room one whole =
      heavy_alike r r.weight found (table_without r.id t ++ rows (receiver t ps) (route_boxes m n t ps))
      (put-boxed t l ns top fresh m (room_put t l ns top fresh m r.id r (record r { parent = next_place t ps }) found refl room) r.id r found apart n one whole)

  -- a device that the table doesn't have
  module _ (d : LeafData) (gone : is_there t (Device d.id) ≡ false) where
    abbrev row : Row
    row = device_row None d

    pub new_puts : Same ((t ++ rows_made t ps) ++ rows (next_place t ps) (device d none)) (put t (device_row None d) ps)
    new_puts = subst (λ z. Same (z ++ rows (next_place t ps) (device d none)) (put t (device_row None d) ps)) with_are (put-new t l ns top fresh 1 (device_row None d) gone)

    apart_new : (j : ItemId) → times j with_boxes + one_if (same_id (Device d.id) j) ≤ 1
    apart_new j = ⊎_elim
        (λ p. let none_before : times j t ≡ 0 = ap (λ z. times z t) (sym p.1) ∙ times-absent t (Device d.id) gone in
        let none_new : times j (new_rows t l ns top fresh 1) ≡ 0 = ap (λ z. times z (new_rows t l ns top fresh 1)) (sym p.1) ∙ reordered-count (λ (x : Row). same_id x.id (Device d.id)) (new-reordered t l ns top fresh 1) ∙ chain-none (λ (x : Row). one_if (same_id x.id (Device d.id))) (λ q n. refl) ns top in
        let one : one_if (same_id (Device d.id) j) ≡ 1 = ap one_if p.0 in
        omega (arith, none_before, none_new, one, times-append j t (new_rows t l ns top fresh 1)))
        (λ p. let no : one_if (same_id (Device d.id) j) ≡ 0 = ap one_if p.0 in omega (arith, no, distinct_with t l ns top fresh 1 j))
        (same_id_tells (Device d.id) j)

    put_boxes : Same (with_boxes ++ device_row (next_place t ps) d ∷ []) (put t (device_row None d) ps)
    put_boxes = put-new t l ns top fresh 1 (device_row None d) gone

    count_new : (p : Row → Bool) → count_by p (put t (device_row None d) ps) ≡ count_by p with_boxes + one_if (p (device_row (next_place t ps) d))
    count_new p = sym (reordered-count p put_boxes.rows) ∙ sum_by_push (λ (x : Row). one_if (p x)) with_boxes (device_row (next_place t ps) d)

    distinct_new : Distinct (put t (device_row None d) ps)
    distinct_new j = omega (arith, apart_new j, count_new (λ (x : Row). same_id x.id j))

    pub counts_new : (device_count (put t (device_row None d) ps) ≡ device_count t + 1) × (bucket_count (put t (device_row None d) ps) ≡ bucket_count t + length (fresh_stops t ps))
    counts_new = (omega (arith, count_new is_device, devices-with t l ns top fresh 1), omega (arith, count_new is_bucket, buckets_with)) where
      buckets_with : bucket_count with_boxes ≡ bucket_count t + length (fresh_stops t ps)
      buckets_with =
          omega (
            arith,
            sum_by-append (λ (x : Row). one_if (is_bucket x)) t (new_rows t l ns top fresh 1),
            reordered-count is_bucket (new-reordered t l ns top fresh 1),
            chain-sum (λ (x : Row). one_if (is_bucket x)) (λ (n : NewData). 1) (λ q n. refl) ns top,
            ones ns,
            new_buckets-length t ps,
          )

    pub room_new_device : has_too_many (put t (device_row None d) ps) ≡ false → has_too_many (t ++ rows_made t ps) ≡ false
    room_new_device room = ap has_too_many (sym with_are) ∙ few_too_many (device_count with_boxes) (bucket_count with_boxes) (device_count (put t (device_row None d) ps)) (bucket_count (put t (device_row None d) ps)) (omega (arith, count_new is_device)) (omega (arith, count_new is_bucket)) room

    pub boxed_new : (m : ℕ) → OnceIds (t ++ rows (receiver t ps) (route_boxes m (device d none) t ps)) × (is_too_heavy (t ++ rows (receiver t ps) (route_boxes m (device d none) t ps)) ≡ is_too_heavy (put t (device_row None d) ps))
    boxed_new m =
        let are : t ++ rows (receiver t ps) (route_boxes m (device d none) t ps) ≡ (t ++ rows_made t ps) ++ rows (next_place t ps) (device d none) =
        ap (λ z. t ++ z) (rows-boxes m (device d none) ns top) ∙ sym (append_assoc t (rows_made t ps) (rows (next_place t ps) (device d none))) in
        let same : Same (t ++ rows (receiver t ps) (route_boxes m (device d none) t ps)) (put t (device_row None d) ps) = Same-trans (t ++ rows (receiver t ps) (route_boxes m (device d none) t ps)) ((t ++ rows_made t ps) ++ rows (next_place t ps) (device d none)) (put t (device_row None d) ps) (Same-is are) new_puts in
        let once : Distinct (t ++ rows (receiver t ps) (route_boxes m (device d none) t ps)) = Distinct-same (reordered-sym same.rows) distinct_new in
        (once, is_too_heavy-same (t ++ rows (receiver t ps) (route_boxes m (device d none) t ps)) (put t (device_row None d) ps) same.rows once)

    pub lawful_new : is_named t d.name ≡ false → count_by (λ (p : StopData). bytes_eq p.name d.name) ps ≡ 0 → ((b : ℕ) → IsRow (device_row (Some b) d)) → is_too_heavy (put t (device_row None d) ps) ≡ false → has_too_many (put t (device_row None d) ps) ≡ false → Lawful (put t (device_row None d) ps)
    lawful_new unnamed no_stop form light room =
        let next = route_next t ps route in
        Lawful-put_new t l ns top fresh 1 d.id next.0 (device_row None d) refl gone unnamed (omega (arith, no_stop, sum_by-take-le (λ (p : StopData). one_if (bytes_eq p.name d.name)) ps (prefix_len (is_fresh t) ps), with_ids-names d.name (free_ids t (length (fresh_stops t ps))) (fresh_stops t ps))) next.1 (form next.0) light room

pub changes : PutChanges
changes t ps r l route there h = differs t r ps l route (ids-apart t l (new_buckets t ps) (receiver t ps) (route_fresh t ps l route) 1 r.id there) h

pub changes_new : PutNewChanges
changes_new t ps d l route gone = differs t (device_row None d) ps l route (All-weaker (λ (n : NewData). member n.id (used_ids t) ≡ false) (λ (n : NewData). same_id (Bucket n.id) (Device d.id) ≡ false) (λ n h. refl) (new_buckets t ps) (route_fresh t ps l route).unused) (not_held ps) where
  nowhere : parent_of t (Device d.id) ≡ None
  nowhere = absent (row_of t (Device d.id)) gone where
    absent : (o : Option Row) → is_some o ≡ false → option_and_then (λ (x : Row). x.parent) o ≡ None
    absent None h = refl
    absent (Some x) h = absurd cc

  not_held : (some : List StopData) → held t (Device d.id) some ≡ false
  not_held [] = refl
  not_held (q ∷ rest) = ap (λ o. is_id o (id_named t q.name)) nowhere

-- THE SETTING still fits
or_true : (a : Bool) → (a || true) ≡ true
or_true true = refl
or_true false = refl

abbrev pub known : SettingData → ℕ → Type 0
known s k = list_any (λ (x : KindData). x.number == k) s.kinds ≡ true

pub kind_known : (s : SettingData) (n : List ℕ) → IfSome (kind_number s n) (known s)
kind_known s n = in_list s.kinds where
  in_list : (ks : List KindData) → IfSome (option_map (λ (k : KindData). k.number) (find (λ (k : KindData). bytes_eq k.name n) ks)) (λ k. list_any (λ (x : KindData). x.number == k) ks ≡ true)
  in_list [] = tt
  in_list (x ∷ ks) = by_name (bytes_eq x.name n) (in_list ks) where
    later : (o : Option KindData) → IfSome (option_map (λ (k : KindData). k.number) o) (λ k. list_any (λ (y : KindData). y.number == k) ks ≡ true) → IfSome (option_map (λ (k : KindData). k.number) o) (λ k. list_any (λ (y : KindData). y.number == k) (x ∷ ks) ≡ true)
    later None h = tt
    later (Some k) h = ap (λ z. (x.number == k.number) || z) h ∙ or_true (x.number == k.number)

    by_name : (b : Bool) → IfSome (option_map (λ (k : KindData). k.number) (find (λ (k : KindData). bytes_eq k.name n) ks)) (λ k. list_any (λ (y : KindData). y.number == k) ks ≡ true)
        → IfSome (option_map (λ (k : KindData). k.number) (if b then Some x else find (λ (k : KindData). bytes_eq k.name n) ks)) (λ k. list_any (λ (y : KindData). y.number == k) (x ∷ ks) ≡ true)
    by_name true rest = ap (λ z. z || list_any (λ (y : KindData). y.number == x.number) ks) (eq-eqb x.number x.number refl)
    by_name false rest = later (find (λ (k : KindData). bytes_eq k.name n) ks) rest

stops_known : (s : SettingData) (l : List Pair) (a : List StopData) → All (λ (p : StopData). known s p.kind) a → All (λ (p : StopData). known s p.kind) (fold (λ ps (p : Pair). with_stop (kind_number s p.kind) p.name ps) a l)
stops_known s [] a h = h
stops_known s (p ∷ l) a h = stops_known s l (with_stop (kind_number s p.kind) p.name a) (by_kind (kind_number s p.kind) (kind_known s p.kind)) where
  by_kind : (o : Option ℕ) → IfSome o (known s) → All (λ (q : StopData). known s q.kind) (with_stop o p.name a)
  by_kind None k = h
  by_kind (Some n) k =
      let i = position_or_len (λ (q : StopData). nat_le n q.kind) a in
      All-append (λ (q : StopData). known s q.kind) (take i a) (record { kind = n; name = p.name } ∷ drop i a) (All-take (λ (q : StopData). known s q.kind) i a h)
      (All-cons (λ (q : StopData). known s q.kind) (record { kind = n; name = p.name }) (drop i a) k (All-drop (λ (q : StopData). known s q.kind) i a h))

-- the new buckets have the types of their stops
chain_known : (s : SettingData) (t : List Row) (l : List Pair) (top : Option ℕ) → All (HasKind s) (chain (new_buckets t (stops s l)) top)
chain_known s t l top =
    let ps = stops s l in
    let stops_are : All (λ (p : StopData). known s p.kind) (fresh_stops t (stops s l)) = All-take (λ (p : StopData). known s p.kind) (prefix_len (is_fresh t) (stops s l)) (stops s l) (stops_known s l [] (All-nil (λ (p : StopData). known s p.kind))) in
    chain-All (HasKind s) (λ (n : NewData). known s n.kind) (λ q n k some. k) (new_buckets t (stops s l)) top
    (with_ids-All (λ (n : NewData). known s n.kind) (λ k. 0 < k) (λ (p : StopData). known s p.kind) (λ i p some k. k) (free_ids t (length (fresh_stops t (stops s l)))) (fresh_stops t (stops s l)) (free_ids-some t (length (fresh_stops t (stops s l)))) stops_are)

-- the table after a put has every item that the table before has
pub put_there : (t : List Row) (r : Row) (ns : List NewData) (top : Option ℕ) (j : ItemId) → is_there t j ≡ true → is_there (put_at t r ns top) j ≡ true
put_there t r ns top j there = ⊎_elim
    (λ p. let one : one_if (same_id r.id j) ≡ 1 = ap one_if p.0 in
    times-is_there (put_at t r ns top) j
    (omega (arith, one, times-append j (without_row r.id t) (chain ns top ++ record r { parent = next_up ns top } ∷ []), sum_by_push (λ (x : Row). one_if (same_id x.id j)) (chain ns top) (record r { parent = next_up ns top }))))
    (λ p. is_there-append (without_row r.id t) (chain ns top ++ record r { parent = next_up ns top } ∷ []) j
    (ap is_some (row_of-only (λ k. not (same_id k r.id)) t j ∙ ap (λ b. if not b then row_of t j else None) (same_id_comm j r.id ∙ p.0)) ∙ there))
    (same_id_tells r.id j)

pub put_fits : PutFits
put_fits s t l r f h =
    let ps = stops s l in
    record {
      setting = f.setting;
      types = All-append (HasKind s) (without_row r.id t) (chain (new_buckets t (stops s l)) (receiver t (stops s l)) ++ record r { parent = next_place t (stops s l) } ∷ [])
          (All-filter (λ (x : Row). not (same_id x.id r.id)) (HasKind s) t f.types)
          (All-append (HasKind s) (chain (new_buckets t (stops s l)) (receiver t (stops s l))) (record r { parent = next_place t (stops s l) } ∷ [])
          (chain_known s t l (receiver t (stops s l)))
          (All-cons (HasKind s) (record r { parent = next_place t (stops s l) }) [] h (All-nil (HasKind s))));
      taken = All-weaker (IsThere t) (IsThere (put t r (stops s l))) (λ b there. put_there t r (new_buckets t (stops s l)) (receiver t (stops s l)) (Bucket b) there) (taken_buckets s) f.taken;
    }
