-- A lawful table stays lawful when new buckets are added and an item is put into the lowest of them.
use Rattle.std.proofs.Common.{◌≡◌, ℕ, ◌≤◌, Bool, true, false, List, [], ◌∷◌, ◌++◌, ap, sym, subst, ◌∙◌, refl, arith, append-nil, ⊎_elim}
use Rattle.std.specs.Prelude.{◌||◌, not, if◌then◌else◌, Option, Some, None, IfSome, All, is_some, bytes_eq, nat_lt}
use Rattle.std.specs.List.{count_by}
use Rattle.std.specs.Option.{option_map}
use Rattle.std.proofs.lemmas.Bool.{le-ltb, ltb-false}
use Rattle.std.proofs.lemmas.List.Sums.{sum_by-cons, sum_by-append, sum_by_push}
use Rattle.std.proofs.lemmas.List.Elements.{All-head, filter-append}
use Rattle.crush_units.specs.declared.id.ItemId.{ItemId}
use Rattle.crush_units.specs.declared.id.ItemId.TheVariants.{Device, Bucket}
use Rattle.crush_units.specs.Id.{same_id}
use Rattle.crush_units.proofs.Ids.{same_id_refl}
use Rattle.crush_units.specs.declared.limits.TheConstants.{MOST_BUCKETS, MOST_DEVICES}
use Rattle.crush_model.specs.Reordered.{IsReordered, through}
use Rattle.crush_model.specs.ItemRows.{bucket_row}
use Rattle.crush_model.specs.Table.{Row, is_device, is_device_id, is_bucket, row_of, row_named, is_there, is_named, device_count, bucket_count}
use Rattle.crush_model.specs.Same.{Same}
use Rattle.crush_model.specs.Lawful.{IsRow, IsRowOf, Lawful, is_too_heavy, has_too_many}
use Rattle.crush_model.specs.Columns.{is_part, without_row}
use Rattle.crush_model.proofs.Reorder.{reordered-sym, reordered-is, reordered-count}
use Rattle.crush_model.specs.Count.{one_if}
use Rattle.crush_model.proofs.Found.{Distinct, times, times-append, Distinct-same, times-absent, is_there-times}
use Rattle.crush_model.proofs.Same.{Same-is, Same-trans, Lawful-reordered, is_too_heavy-same}
use Rattle.crush_model.proofs.Appended.{row_of-append, unnamed, Lawful-push_device}
use Rattle.crush_model.proofs.Attached.{is_there-append}
use Rattle.crush_model.proofs.Moved.{Lawful-moved, last_row, row_id}
use Rattle.crush_model.proofs.Weighs.{true_or_false, or_left, or_right}
use Rattle.crush_edits.specs.Put.{NewData, new_header, next_up, chain, put_at}
use Rattle.crush_edits.specs.New.{AreNew}
use Rattle.crush_edits.proofs.Chains.{new_rows, new-reordered, Lawful-with, found-chain, chain-none, chain-sum}
use Rattle.crush_edits.proofs.Puts.{others_kept, last-same, placed-same, still_found, next_apart, other}

-- the table has the bucket that the item is put into: the lowest new bucket, or the receiver
pub next_there : (v : List Row) (ns : List NewData) (top : Option ℕ) → All (λ (r : Row). row_of v r.id ≡ Some r) (chain ns top) → IfSome top (λ b. is_there v (Bucket b) ≡ true) → IfSome (next_up ns top) (λ b. is_there v (Bucket b) ≡ true)
next_there v [] top found h = h
next_there v (n ∷ ns) top found h = ap is_some (All-head (λ (r : Row). row_of v r.id ≡ Some r) (bucket_row (next_up ns top) (new_header n)) (chain ns top) found)

-- if no row has the name, no item is found by it
pub nowhere_named : (t : List Row) (n : List ℕ) → count_by (λ (r : Row). bytes_eq r.name n) t ≡ 0 → is_named t n ≡ false
nowhere_named [] n h = refl
nowhere_named (r ∷ t) n h = ⊎_elim
    (λ e. absurd (let one : one_if (bytes_eq r.name n) ≡ 1 = ap one_if e in omega (arith, one, h, sum_by-cons (λ (x : Row). one_if (bytes_eq x.name n)) r t)))
    (λ e. ap (λ z. is_some (option_map (λ (x : Row). x.id) (if z then Some r else row_named t n))) e ∙ nowhere_named t n (omega (arith, h, sum_by-cons (λ (x : Row). one_if (bytes_eq x.name n)) r t)))
    (true_or_false (bytes_eq r.name n))

nowhere_there : (t : List Row) (i : ItemId) → times i t ≡ 0 → is_there t i ≡ false
nowhere_there t i h = ⊎_elim (λ e. absurd (omega (arith, h, is_there-times t i e))) (λ e. e) (true_or_false (is_there t i))

pub few_too_many : (d b e c : ℕ) → d ≤ e → b ≤ c → (nat_lt MOST_DEVICES e || nat_lt MOST_BUCKETS c) ≡ false → (nat_lt MOST_DEVICES d || nat_lt MOST_BUCKETS b) ≡ false
few_too_many d b e c le ge h =
    let devices : e ≤ MOST_DEVICES = ltb-false MOST_DEVICES e (or_left (nat_lt MOST_DEVICES e) (nat_lt MOST_BUCKETS c) h) in
    let buckets : c ≤ MOST_BUCKETS = ltb-false MOST_BUCKETS c (or_right (nat_lt MOST_DEVICES e) (nat_lt MOST_BUCKETS c) h) in
    λ k. le-ltb MOST_DEVICES d (omega (arith, devices)) k || le-ltb MOST_BUCKETS b (omega (arith, buckets)) k

if_some : (P : ℕ → Type 0) (o : Option ℕ) (b : ℕ) → o ≡ Some b → IfSome o P → P b
if_some P o b e h = subst (λ z. IfSome z P) e h

module _ (t : List Row) (l : Lawful t) (ns : List NewData) (top : Option ℕ) (fresh : AreNew t ns top) (m : ℕ) where
  abbrev new : List Row
  new = new_rows t l ns top fresh m

  abbrev with_new : List Row
  with_new = t ++ new

  pub next_there_with : IfSome (next_up ns top) (λ b. is_there with_new (Bucket b) ≡ true)
  next_there_with = next_there with_new ns top (found-chain t l ns top fresh m) (still top fresh.there) where
    still : (o : Option ℕ) → IfSome o (λ b. is_there t (Bucket b) ≡ true) → IfSome o (λ b. is_there with_new (Bucket b) ≡ true)
    still None h = h
    still (Some b) h = is_there-append t new (Bucket b) h

  -- an item that the table has: the numbers of devices and buckets are the same before and after the put
  module _ (i : ItemId) (r s : Row) (found : row_of t i ≡ Some r) (same : s.id ≡ r.id) where
    count_put : (p : Row → Bool) → p s ≡ p r → count_by p with_new ≡ count_by p (without_row i t ++ (chain ns top ++ s ∷ []))
    count_put p e =
        let both : one_if (p s) ≡ one_if (p r) = ap one_if e in
        omega (
          arith,
          both,
          sum_by-append (λ (x : Row). one_if (p x)) t new,
          reordered-count p (new-reordered t l ns top fresh m),
          reordered-count p (last_row i t r (l.ids i) found),
          sum_by_push (λ (x : Row). one_if (p x)) (without_row i t) r,
          sum_by-append (λ (x : Row). one_if (p x)) (without_row i t) (chain ns top ++ s ∷ []),
          sum_by_push (λ (x : Row). one_if (p x)) (chain ns top) s,
        )

    pub room_put : has_too_many (without_row i t ++ (chain ns top ++ s ∷ [])) ≡ false → has_too_many with_new ≡ false
    room_put h = (λ k. nat_lt MOST_DEVICES (count_put is_device (ap is_device_id same) k) || nat_lt MOST_BUCKETS (count_put is_bucket (ap (λ j. not (is_device_id j)) same) k)) ∙ h

  -- THE LAW: putting an item that the table has keeps the table lawful, if sums and counts stay in range
  pub Lawful-put_moved : (i : ItemId) (r : Row) (b w : ℕ) → row_of t i ≡ Some r → next_up ns top ≡ Some b → IfSome top (λ c. is_part t i (Bucket c) ≡ false) → IsRow (record r { parent = Some b; weight = w })
      → is_too_heavy (put_at t (record r { weight = w }) ns top) ≡ false → has_too_many (put_at t (record r { weight = w }) ns top) ≡ false → Lawful (put_at t (record r { weight = w }) ns top)
  Lawful-put_moved i r b w found next apart row light room =
      let s : Row = record r { parent = next_up ns top; weight = w } in
      let is_it : r.id ≡ i = row_id i t r found in
      let after : List Row = without_row i t ++ (chain ns top ++ record r { parent = next_up ns top; weight = w } ∷ []) in
      let whole : put_at t (record r { weight = w }) ns top ≡ without_row i t ++ (chain ns top ++ record r { parent = next_up ns top; weight = w } ∷ []) =
      ap (λ j. without_row j t ++ (chain ns top ++ record r { parent = next_up ns top; weight = w } ∷ [])) is_it in
      let fits : has_too_many with_new ≡ false = room_put i r (record r { parent = next_up ns top; weight = w }) found refl (ap has_too_many (sym whole) ∙ room) in
      let lawful : Lawful with_new = Lawful-with t l ns top fresh m fits in
      let here : row_of with_new i ≡ Some r = still_found t l ns top fresh m fits i r found apart in
      let row_same : record r { parent = Some b; weight = w } ≡ record r { parent = next_up ns top; weight = w } = ap (λ o. record r { parent = o; weight = w }) (sym next) in
      let order : IsReordered (without_row i with_new ++ record r { parent = Some b; weight = w } ∷ []) (put_at t (record r { weight = w }) ns top) =
      through (reordered-is (ap (λ x. without_row i with_new ++ x ∷ []) row_same))
      (through ((placed-same t l ns top fresh m i (record r { parent = next_up ns top; weight = w }) (other t l ns top fresh m fits i r found apart)).rows) (reordered-is (sym whole))) in
      let old : Distinct (without_row i with_new ++ r ∷ []) = Distinct-same (reordered-sym (last_row i with_new r (lawful.ids i) here)) lawful.ids in
      let distinct : Distinct (without_row i with_new ++ record r { parent = Some b; weight = w } ∷ []) = λ j.
      omega (arith, old j, times-append j (without_row i with_new) (r ∷ []), times-append j (without_row i with_new) (record r { parent = Some b; weight = w } ∷ [])) in
      Lawful-reordered (without_row i with_new ++ record r { parent = Some b; weight = w } ∷ []) (put_at t (record r { weight = w }) ns top) order
      (Lawful-moved with_new i b w r lawful here (if_some (λ c. is_there with_new (Bucket c) ≡ true) (next_up ns top) b next next_there_with) (if_some (λ c. is_part with_new i (Bucket c) ≡ false) (next_up ns top) b next (next_apart t l ns top fresh m fits i r found apart)) row
      (is_too_heavy-same (without_row i with_new ++ record r { parent = Some b; weight = w } ∷ []) (put_at t (record r { weight = w }) ns top) order distinct ∙ light))

  -- a device that the table doesn't have: appending the new buckets and then the device gives the table of the put
  pub put-new : (r : Row) → is_there t r.id ≡ false → Same (with_new ++ record r { parent = next_up ns top } ∷ []) (put_at t r ns top)
  put-new r gone = Same-trans (with_new ++ record r { parent = next_up ns top } ∷ []) (t ++ (chain ns top ++ record r { parent = next_up ns top } ∷ [])) (put_at t r ns top)
      (last-same t l ns top fresh m t (record r { parent = next_up ns top }))
      (Same-is (ap (λ z. z ++ (chain ns top ++ record r { parent = next_up ns top } ∷ [])) (sym (others_kept r.id t gone))))

  -- THE LAW: putting a new device keeps the table lawful, if sums and counts stay in range
  module _ (d b : ℕ) (r : Row) (is : r.id ≡ Device d) (gone : is_there t r.id ≡ false) (new_name : is_named t r.name ≡ false) (no_stop : count_by (λ (n : NewData). bytes_eq n.name r.name) ns ≡ 0) (next : next_up ns top ≡ Some b) (row : IsRow (record r { parent = Some b })) where
    abbrev unplaced : Row
    unplaced = record r { parent = None; weight = 0 }

    unplaced_row : IsRow unplaced
    unplaced_row = record { name = row.name; form = subst (λ i. IsRowOf i unplaced) (sym is) (light_form (subst (λ i. IsRowOf i (record r { parent = Some b })) is row.form)) } where
      light_form : IsRowOf (Device d) (record r { parent = Some b }) → IsRowOf (Device d) unplaced
      light_form form = record { id = form.id; kind = form.kind; light = omega arith; unplaced = λ e. refl; alg = form.alg; class_ids = form.class_ids; class = form.class }

    gone_with : is_there with_new (Device d) ≡ false
    gone_with = nowhere_there with_new (Device d)
        (omega (arith, times-absent t (Device d) (ap (is_there t) (sym is) ∙ gone), times-append (Device d) t new, reordered-count (λ (x : Row). same_id x.id (Device d)) (new-reordered t l ns top fresh m), chain-none (λ (x : Row). one_if (same_id x.id (Device d))) (λ q n. refl) ns top))

    unnamed_with : is_named with_new r.name ≡ false
    unnamed_with = nowhere_named with_new r.name
        (omega (
          arith,
          no_stop,
          unnamed t r.name new_name,
          sum_by-append (λ (x : Row). one_if (bytes_eq x.name r.name)) t new,
          reordered-count (λ (x : Row). bytes_eq x.name r.name) (new-reordered t l ns top fresh m),
          chain-sum (λ (x : Row). one_if (bytes_eq x.name r.name)) (λ (n : NewData). one_if (bytes_eq n.name r.name)) (λ q n. refl) ns top,
        ))

    abbrev before : List Row
    before = with_new ++ unplaced ∷ []

    left_before : without_row (Device d) before ≡ with_new
    left_before =
        filter-append (λ (x : Row). not (same_id x.id (Device d))) with_new (unplaced ∷ [])
        ∙ (λ k. others_kept (Device d) with_new gone_with k ++ (if not (ap (λ j. same_id j (Device d)) is k) then unplaced ∷ [] else []))
        ∙ (λ k. with_new ++ (if not (same_id_refl (Device d) k) then unplaced ∷ [] else [])) ∙ append-nil with_new

    order : IsReordered (without_row (Device d) before ++ record r { parent = Some b } ∷ []) (put_at t r ns top)
    order = through (reordered-is (λ k. left_before k ++ record r { parent = sym next k } ∷ [])) ((put-new r gone).rows)

    -- the numbers of devices and buckets are the same before the device is placed
    count_new : (p : Row → Bool) → p unplaced ≡ p (record r { parent = next_up ns top }) → count_by p before ≡ count_by p (put_at t r ns top)
    count_new p e =
        let both : one_if (p unplaced) ≡ one_if (p (record r { parent = next_up ns top })) = ap one_if e in
        omega (arith, both, sum_by_push (λ (x : Row). one_if (p x)) with_new unplaced, sum_by_push (λ (x : Row). one_if (p x)) with_new (record r { parent = next_up ns top }), reordered-count p ((put-new r gone).rows))

    pub Lawful-put_new : is_too_heavy (put_at t r ns top) ≡ false → has_too_many (put_at t r ns top) ≡ false → Lawful (put_at t r ns top)
    Lawful-put_new light room =
        let room_before : has_too_many before ≡ false = (λ k. nat_lt MOST_DEVICES (count_new is_device refl k) || nat_lt MOST_BUCKETS (count_new is_bucket refl k)) ∙ room in
        let room_with : has_too_many with_new ≡ false = few_too_many (device_count with_new) (bucket_count with_new) (device_count before) (bucket_count before)
        (omega (arith, sum_by_push (λ (x : Row). one_if (is_device x)) with_new unplaced)) (omega (arith, sum_by_push (λ (x : Row). one_if (is_bucket x)) with_new unplaced)) room_before in
        let lawful : Lawful with_new = Lawful-with t l ns top fresh m room_with in
        let lawful_before : Lawful before = Lawful-push_device with_new d unplaced is lawful unplaced_row refl gone_with unnamed_with room_before in
        let found : row_of before (Device d) ≡ Some unplaced = row_of-append with_new (unplaced ∷ []) (Device d) ∙ (λ k. if gone_with k then row_of with_new (Device d) else (if ap (λ j. same_id j (Device d)) is k then Some unplaced else None)) ∙ ap (λ z. if z then Some unplaced else None) (same_id_refl (Device d)) in
        let old : Distinct (with_new ++ unplaced ∷ []) = lawful_before.ids in
        let distinct : Distinct (without_row (Device d) before ++ record r { parent = Some b } ∷ []) = subst (λ z. Distinct (z ++ record r { parent = Some b } ∷ [])) (sym left_before)
        (λ j. omega (arith, old j, times-append j with_new (unplaced ∷ []), times-append j with_new (record r { parent = Some b } ∷ []))) in
        Lawful-reordered (without_row (Device d) before ++ record r { parent = Some b } ∷ []) (put_at t r ns top) order
        (Lawful-moved before (Device d) b r.weight unplaced lawful_before found (is_there-append with_new (unplaced ∷ []) (Bucket b) (if_some (λ c. is_there with_new (Bucket c) ≡ true) (next_up ns top) b next next_there_with)) refl row
        (is_too_heavy-same (without_row (Device d) before ++ record r { parent = Some b } ∷ []) (put_at t r ns top) order distinct ∙ light))
