-- The rows of new buckets, and the table to which they are appended.
use Rattle.std.proofs.Common.{◌≡◌, ℕ, ◌+◌, ◌≤◌, Bool, true, false, List, [], ◌∷◌, ◌++◌, ap, sym, subst, ◌∙◌, refl, arith, ⊎_elim, ◌⊎◌, inl, inr}
use Rattle.std.specs.Prelude.{◌==◌, ◌||◌, not, if◌then◌else◌, Option, Some, None, IfSome, All, is_some, option_and_then, bytes_eq}
use Rattle.std.specs.List.{sum_by, count_by}
use Rattle.std.proofs.lemmas.Bool.Decides.{eqb_tells}
use Rattle.std.proofs.lemmas.Slice.Eq.{bytes_eq-Decides}
use Rattle.std.proofs.lemmas.List.Sums.{sum_by-cons, sum_by-append}
use Rattle.std.proofs.lemmas.List.Elements.{All-nil, All-cons, All-head, All-tail, All-weaker, filter-append}
use Rattle.crush_units.specs.declared.id.ItemId.{ItemId}
use Rattle.crush_units.specs.declared.id.ItemId.TheVariants.{Device, Bucket}
use Rattle.crush_units.specs.Id.{same_id}
use Rattle.crush_units.proofs.Ids.{same_id_tells}
use Rattle.crush_units.specs.declared.limits.TheConstants.{HEAVIEST_BUCKET, HEAVIEST_MAP}
use Rattle.crush_model.specs.Items.{none}
use Rattle.crush_model.specs.Reordered.{IsReordered, through}
use Rattle.crush_model.specs.ItemRows.{rows, bucket_row}
use Rattle.crush_model.specs.Table.{Row, is_device, row_of, is_there, is_named, parent_of, then_up, above, member, is_parent, sum_below, total, used_ids, device_count, summed_weight}
use Rattle.crush_model.specs.Lawful.{IsShadowId, IsRow, Lawful, has_too_many}
use Rattle.crush_model.specs.Columns.{is_under, is_part, without_row}
use Rattle.crush_model.proofs.Reorder.{reordered-sym, reordered-is, reordered-sum, reordered-count, reordered-All}
use Rattle.crush_model.specs.Count.{one_if}
use Rattle.crush_model.proofs.Found.{Distinct, DistinctNames, times, times-append}
use Rattle.crush_model.proofs.Same.{uses, times_used, times_used-rows}
use Rattle.crush_model.proofs.Climbs.{above-parent}
use Rattle.crush_model.proofs.Appended.{times-used, unused_times, unused_fresh, unnamed}
use Rattle.crush_model.proofs.Attached.{Lawful-attach, sum_below-attach, above_kept, chain_at}
use Rattle.crush_model.proofs.Relocated.{filter_all, under_parent}
use Rattle.crush_model.proofs.Sums.{device_sum, below}
use Rattle.crush_model.proofs.Weighs.{true_or_false, sums_light, All-found}
use Rattle.crush_edits.specs.Put.{NewData, new_header, next_up, chain}
use Rattle.crush_edits.specs.Boxes.{boxes, last_first}
use Rattle.crush_edits.specs.New.{IsNew, AreNew}
use Rattle.crush_edits.proofs.Boxes.{rows-empty, device_sum-boxes, below-le, turned-reordered}

-- SUMS over the new rows
pub chain-sum : (f : Row → ℕ) (g : NewData → ℕ) → ((q : Option ℕ) (n : NewData) → f (bucket_row q (new_header n)) ≡ g n) → (ns : List NewData) (top : Option ℕ) → sum_by f (chain ns top) ≡ sum_by g ns
chain-sum f g h [] top = refl
chain-sum f g h (n ∷ ns) top =
    omega (arith, sum_by-cons f (bucket_row (next_up ns top) (new_header n)) (chain ns top), sum_by-cons g n ns, h (next_up ns top) n, chain-sum f g h ns top)

pub chain-none : (f : Row → ℕ) → ((q : Option ℕ) (n : NewData) → f (bucket_row q (new_header n)) ≡ 0) → (ns : List NewData) (top : Option ℕ) → sum_by f (chain ns top) ≡ 0
chain-none f h [] top = refl
chain-none f h (n ∷ ns) top = omega (arith, sum_by-cons f (bucket_row (next_up ns top) (new_header n)) (chain ns top), h (next_up ns top) n, chain-none f h ns top)

-- a property that holds for each row of a new bucket
pub chain-All : (P : Row → Type 0) (Q : NewData → Type 0) → ((q : Option ℕ) (n : NewData) → Q n → P (bucket_row q (new_header n))) → (ns : List NewData) (top : Option ℕ) → All Q ns → All P (chain ns top)
chain-All P Q h [] top a = All-nil P
chain-All P Q h (n ∷ ns) top a = All-cons P (bucket_row (next_up ns top) (new_header n)) (chain ns top) (h (next_up ns top) n (All-head Q n ns a)) (chain-All P Q h ns top (All-tail Q n ns a))

-- either no element passes the test, or Q holds
any-or : {X : Type 0} (p : X → Bool) (Q : Type 0) (xs : List X) → All (λ x. p x ≡ true → Q) xs → (count_by p xs ≡ 0) ⊎ Q
any-or p Q [] a = inl refl
any-or p Q (x ∷ xs) a = ⊎_elim
    (λ e. inr (All-head (λ y. p y ≡ true → Q) x xs a e))
    (λ e. let none_here : one_if (p x) ≡ 0 = ap one_if e in ⊎_elim (λ h. inl (omega (arith, none_here, h, sum_by-cons (λ y. one_if (p y)) x xs))) (λ q. inr q) (any-or p Q xs (All-tail (λ y. p y ≡ true → Q) x xs a)))
    (true_or_false (p x))

pub All-right : {X : Type 0} (P : X → Type 0) (xs ys : List X) → All P (xs ++ ys) → All P ys
All-right P [] ys a = a
All-right P (x ∷ xs) ys a = All-right P xs ys (All-tail P x (xs ++ ys) a)

-- the row of a valid new bucket is valid
new_form : (q : Option ℕ) (n : NewData) → IsNew n → IsRow (bucket_row q (new_header n))
new_form q n form = record {
  name = form.name;
  form = record {
    some = form.some;
    most = form.most;
    kind_some = form.kind_some;
    kind_most = form.kind_most;
    weight = refl;
    class = refl;
    alg = λ e. cc;
    class_ids = All-nil IsShadowId;
    few = omega arith;
    classes = λ c. omega arith;
  };
}

-- an item without a parent is below no bucket
root_under : (t : List Row) → Lawful t → (i j : ItemId) → parent_of t j ≡ None → is_under t i j ≡ false
root_under t l (Device d) j e = refl
root_under t l (Bucket b) j e = ap (member b) (above-parent t l j ∙ ap (λ o. then_up o (λ p. above t (Bucket p))) e)

up_apart : (t : List Row) → Lawful t → (i j : ItemId) (o : Option ℕ) → parent_of t j ≡ o → IfSome o (λ b. is_part t i (Bucket b) ≡ false) → is_under t i j ≡ false
up_apart t l i j None e h = root_under t l i j e
up_apart t l i j (Some q) e h = under_parent t l i j q e ∙ h

-- if the receiver isn't part of an item, then the new buckets aren't, either
pub chain_apart : (t : List Row) → Lawful t → (i : ItemId) (ns : List NewData) (top : Option ℕ) → All (λ (r : Row). row_of t r.id ≡ Some r) (chain ns top) → All (λ (n : NewData). same_id (Bucket n.id) i ≡ false) ns
    → IfSome top (λ b. is_part t i (Bucket b) ≡ false) → All (λ (r : Row). is_part t i r.id ≡ false) (chain ns top) × IfSome (next_up ns top) (λ b. is_part t i (Bucket b) ≡ false)
chain_apart t l i [] top found other h = (All-nil (λ (r : Row). is_part t i r.id ≡ false), h)
chain_apart t l i (n ∷ ns) top found other h =
    let row = bucket_row (next_up ns top) (new_header n) in
    let above_it = chain_apart t l i ns top (All-tail (λ (r : Row). row_of t r.id ≡ Some r) row (chain ns top) found) (All-tail (λ (x : NewData). same_id (Bucket x.id) i ≡ false) n ns other) h in
    let here : row_of t (Bucket n.id) ≡ Some row = All-head (λ (r : Row). row_of t r.id ≡ Some r) row (chain ns top) found in
    let not_under : is_under t i (Bucket n.id) ≡ false = up_apart t l i (Bucket n.id) (next_up ns top) (ap (option_and_then (λ (r : Row). r.parent)) here) above_it.1 in
    let not_it : same_id (Bucket n.id) i ≡ false = All-head (λ (x : NewData). same_id (Bucket x.id) i ≡ false) n ns other in
    let apart : is_part t i (Bucket n.id) ≡ false = λ z. not_it z || not_under z in
    (All-cons (λ (r : Row). is_part t i r.id ≡ false) row (chain ns top) apart above_it.0, apart)

-- each new bucket holds at most one of the new buckets, and so does the receiver
kids-few : (b : ℕ) (n : NewData) (ns : List NewData) (top : Option ℕ) → count_by (λ (r : Row). is_parent b r.parent) (chain (n ∷ ns) top) ≤ count_by (λ (x : NewData). x.id == b) ns + one_if (is_parent b top)
kids-few b n [] top = omega (arith, sum_by-cons (λ (r : Row). one_if (is_parent b r.parent)) (bucket_row top (new_header n)) [])
kids-few b n (x ∷ ns) top =
    omega (arith, sum_by-cons (λ (r : Row). one_if (is_parent b r.parent)) (bucket_row (Some x.id) (new_header n)) (chain (x ∷ ns) top), sum_by-cons (λ (y : NewData). one_if (y.id == b)) x ns, kids-few b x ns top)

-- THE TABLE WITH NEW BUCKETS
module _ (t : List Row) (l : Lawful t) (ns : List NewData) (top : Option ℕ) (fresh : AreNew t ns top) (m : ℕ) where
  abbrev pub new_rows : List Row
  new_rows = rows top (boxes m none ns)

  pub new_are : new_rows ≡ last_first (chain ns top)
  new_are = rows-empty m ns top

  pub new-reordered : IsReordered new_rows (chain ns top)
  new-reordered = through (reordered-is new_are) (turned-reordered (chain ns top))

  unused_or : (k : ℕ) → (count_by (λ (n : NewData). n.id == k) ns ≡ 0) ⊎ (member k (used_ids t) ≡ false)
  unused_or k = any-or (λ (n : NewData). n.id == k) (member k (used_ids t) ≡ false) ns (All-weaker (λ (n : NewData). member n.id (used_ids t) ≡ false) (λ (n : NewData). (n.id == k) ≡ true → member k (used_ids t) ≡ false) each ns fresh.unused) where
    each : (n : NewData) → member n.id (used_ids t) ≡ false → (n.id == k) ≡ true → member k (used_ids t) ≡ false
    each n h e = ⊎_elim (λ p. ap (λ z. member z (used_ids t)) (sym p.1) ∙ h) (λ p. absurd (let no_more = p.0 in cc)) (eqb_tells n.id k)

  unnamed_or : (m : List ℕ) → (count_by (λ (n : NewData). bytes_eq n.name m) ns ≡ 0) ⊎ (is_named t m ≡ false)
  unnamed_or m = any-or (λ (n : NewData). bytes_eq n.name m) (is_named t m ≡ false) ns
      (All-weaker (λ (n : NewData). is_named t n.name ≡ false) (λ (n : NewData). bytes_eq n.name m ≡ true → is_named t m ≡ false) (λ n h e. ap (is_named t) (sym ((bytes_eq-Decides n.name m).0 e)) ∙ h) ns fresh.unnamed)

  pub times-new : (b : ℕ) → times (Bucket b) new_rows ≡ count_by (λ (n : NewData). n.id == b) ns
  times-new b = reordered-count (λ (r : Row). same_id r.id (Bucket b)) new-reordered ∙ chain-sum (λ (r : Row). one_if (same_id r.id (Bucket b))) (λ (n : NewData). one_if (n.id == b)) (λ q n. refl) ns top

  pub distinct_with : Distinct (t ++ new_rows)
  distinct_with (Device d) =
      omega (arith, l.ids (Device d), times-append (Device d) t new_rows, reordered-count (λ (r : Row). same_id r.id (Device d)) new-reordered, chain-none (λ (r : Row). one_if (same_id r.id (Device d))) (λ q n. refl) ns top)
  distinct_with (Bucket b) = ⊎_elim
      (λ none_new. omega (arith, none_new, l.ids (Bucket b), times-append (Bucket b) t new_rows, times-new b))
      (λ unused. omega (arith, unused_times t b unused, times-used t b, fresh.ids b, times-append (Bucket b) t new_rows, times-new b))
      (unused_or b)

  names_with : DistinctNames (t ++ new_rows)
  names_with m =
      let both = sum_by-append (λ (r : Row). one_if (bytes_eq r.name m)) t new_rows in
      let new_names = reordered-count (λ (r : Row). bytes_eq r.name m) new-reordered ∙ chain-sum (λ (r : Row). one_if (bytes_eq r.name m)) (λ (n : NewData). one_if (bytes_eq n.name m)) (λ q n. refl) ns top in
      ⊎_elim (λ none_new. omega (arith, none_new, l.names m, both, new_names)) (λ gone. omega (arith, unnamed t m gone, fresh.names m, both, new_names)) (unnamed_or m)

  used_with : (k : ℕ) → times_used k (t ++ new_rows) ≤ 1
  used_with k =
      let both = sum_by-append (λ (r : Row). count_by (λ u. u == k) (uses r)) t new_rows in
      let new_uses = reordered-sum (λ (r : Row). count_by (λ u. u == k) (uses r)) new-reordered ∙ chain-sum (λ (r : Row). count_by (λ u. u == k) (uses r)) (λ (n : NewData). one_if (n.id == k)) (λ q n. omega (arith, sum_by-cons (λ u. one_if (u == k)) n.id [])) ns top in
      ⊎_elim
      (λ none_new. omega (arith, none_new, l.used k, times_used-rows k t, times_used-rows k (t ++ new_rows), both, new_uses))
      (λ unused. omega (arith, unused_times t k unused, fresh.ids k, times_used-rows k t, times_used-rows k (t ++ new_rows), both, new_uses))
      (unused_or k)

  forms_new : All IsRow new_rows
  forms_new = reordered-All IsRow (reordered-sym new-reordered) (chain-All IsRow IsNew new_form ns top fresh.forms)

  -- new buckets weigh nothing
  pub sum_below-with : (c : ℕ) → sum_below (t ++ new_rows) c ≡ sum_below t c
  sum_below-with c =
      sum_below-attach t l top (boxes m none ns) fresh.there distinct_with c ∙ nothing_comes (member c (chain_at t top)) where
        nothing_comes : (b : Bool) → sum_below t c + (if b then device_sum (boxes m none ns) else below c (boxes m none ns)) ≡ sum_below t c
        nothing_comes true = omega (arith, device_sum-boxes m none ns)
        nothing_comes false = omega (arith, device_sum-boxes m none ns, below-le c (boxes m none ns))

  pub total-with : total (t ++ new_rows) ≡ total t
  total-with =
      omega (
        arith,
        sum_by-append (λ (r : Row). if is_some r.parent then summed_weight r else 0) t new_rows,
        reordered-sum (λ (r : Row). if is_some r.parent then summed_weight r else 0) new-reordered,
        chain-none (λ (r : Row). if is_some r.parent then summed_weight r else 0) (λ q n. weightless (is_some q)) ns top,
      ) where
        weightless : (b : Bool) → ◌≡◌ {A = ℕ} (if b then 0 else 0) 0
        weightless true = refl
        weightless false = refl

  pub devices-with : device_count (t ++ new_rows) ≡ device_count t
  devices-with = omega (arith, sum_by-append (λ (r : Row). one_if (is_device r)) t new_rows, reordered-count is_device new-reordered, chain-none (λ (r : Row). one_if (is_device r)) (λ q n. refl) ns top)

  -- THE LAW: a lawful table stays lawful with the new buckets, if there is room
  pub Lawful-with : has_too_many (t ++ new_rows) ≡ false → Lawful (t ++ new_rows)
  Lawful-with room =
      Lawful-attach t top (boxes m none ns) l fresh.there forms_new distinct_with names_with used_with
      (sums_light (t ++ new_rows) (λ b. subst (λ n. n ≤ HEAVIEST_BUCKET) (sym (sum_below-with b)) (l.sums b)) (subst (λ n. n ≤ HEAVIEST_MAP) (sym total-with) l.total)) room

  -- each new row is found
  pub found-chain : All (λ (r : Row). row_of (t ++ new_rows) r.id ≡ Some r) (chain ns top)
  found-chain = reordered-All (λ (r : Row). row_of (t ++ new_rows) r.id ≡ Some r) new-reordered (All-right (λ (r : Row). row_of (t ++ new_rows) r.id ≡ Some r) t new_rows (All-found (t ++ new_rows) distinct_with))

  -- an item that the table has has none of the new ids
  pub ids-apart : (i : ItemId) → is_there t i ≡ true → All (λ (n : NewData). same_id (Bucket n.id) i ≡ false) ns
  ids-apart i there = All-weaker (λ (n : NewData). member n.id (used_ids t) ≡ false) (λ (n : NewData). same_id (Bucket n.id) i ≡ false) each ns fresh.unused where
    each : (n : NewData) → member n.id (used_ids t) ≡ false → same_id (Bucket n.id) i ≡ false
    each n h = ⊎_elim (λ p. absurd (let gone : is_there t i ≡ false = ap (is_there t) (sym p.1) ∙ unused_fresh t n.id h in cc)) (λ p. p.0) (same_id_tells (Bucket n.id) i)

  -- whether one item of the table is part of another is the same with the new buckets as without
  pub is_part-with : (i j : ItemId) → is_there t j ≡ true → is_part (t ++ new_rows) i j ≡ is_part t i j
  is_part-with i j there = ap (λ z. same_id j i || z) (by_item i) where
    by_item : (k : ItemId) → is_under (t ++ new_rows) k j ≡ is_under t k j
    by_item (Device d) = refl
    by_item (Bucket b) = ap (member b) (above_kept t l new_rows j there)

  top_apart : (i : ItemId) (o : Option ℕ) → IfSome o (λ b. is_there t (Bucket b) ≡ true) → IfSome o (λ b. is_part t i (Bucket b) ≡ false) → IfSome o (λ b. is_part (t ++ new_rows) i (Bucket b) ≡ false)
  top_apart i None there h = tt
  top_apart i (Some b) there h = is_part-with i (Bucket b) there ∙ h

  -- if the receiver isn't part of an item, then the new buckets aren't, nor is the bucket that the item is put into
  pub chain-apart : has_too_many (t ++ new_rows) ≡ false → (i : ItemId) → All (λ (n : NewData). same_id (Bucket n.id) i ≡ false) ns → IfSome top (λ b. is_part t i (Bucket b) ≡ false)
      → All (λ (r : Row). is_part (t ++ new_rows) i r.id ≡ false) (chain ns top) × IfSome (next_up ns top) (λ b. is_part (t ++ new_rows) i (Bucket b) ≡ false)
  chain-apart room i other h = chain_apart (t ++ new_rows) (Lawful-with room) i ns top found-chain other (top_apart i top fresh.there h)

  -- removing the row of an item removes none of the new rows
  pub without_row-with : (i : ItemId) → All (λ (n : NewData). same_id (Bucket n.id) i ≡ false) ns → without_row i (t ++ new_rows) ≡ without_row i t ++ new_rows
  without_row-with i other =
      filter-append (λ (r : Row). not (same_id r.id i)) t new_rows
      ∙ ap (λ z. without_row i t ++ z) (filter_all (λ (r : Row). not (same_id r.id i)) new_rows
      (reordered-All (λ (r : Row). not (same_id r.id i) ≡ true) (reordered-sym new-reordered) (chain-All (λ (r : Row). not (same_id r.id i) ≡ true) (λ (n : NewData). same_id (Bucket n.id) i ≡ false) (λ q n h. ap not h) ns top other)))

  -- each bucket holds at most one of the new buckets
  one_kid : (b : ℕ) → count_by (λ (n : NewData). n.id == b) ns + one_if (is_parent b top) ≤ 1
  one_kid b = ⊎_elim
      (λ none_new. omega (arith, none_new, at_most (is_parent b top)))
      (λ unused. ⊎_elim (λ yes. absurd (received top fresh.there yes unused)) (λ no. let nowhere : one_if (is_parent b top) ≡ 0 = ap one_if no in omega (arith, nowhere, fresh.ids b)) (true_or_false (is_parent b top)))
      (unused_or b) where
        at_most : (c : Bool) → one_if c ≤ 1
        at_most true = omega arith
        at_most false = omega arith

        received : (o : Option ℕ) → IfSome o (λ c. is_there t (Bucket c) ≡ true) → is_parent b o ≡ true → member b (used_ids t) ≡ false → ⊥
        received None there e unused = cc
        received (Some c) there e unused = ⊎_elim
            (λ p. let here : is_there t (Bucket b) ≡ true = ap (λ z. is_there t (Bucket z)) (sym p.1) ∙ there in let gone = unused_fresh t b unused in cc)
            (λ p. let no_more = p.0 in cc)
            (eqb_tells c b)

  pub one-kid : (b : ℕ) → count_by (λ (r : Row). is_parent b r.parent) (chain ns top) ≤ 1
  one-kid b = by_chain ns (one_kid b) where
    by_chain : (xs : List NewData) → count_by (λ (n : NewData). n.id == b) xs + one_if (is_parent b top) ≤ 1 → count_by (λ (r : Row). is_parent b r.parent) (chain xs top) ≤ 1
    by_chain [] h = omega arith
    by_chain (n ∷ xs) h = omega (arith, h, sum_by-cons (λ (x : NewData). one_if (x.id == b)) n xs, kids-few b n xs top)
