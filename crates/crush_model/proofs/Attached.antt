-- The rows of items that are appended below a bucket or as roots: what is above them, their sums, and that the table stays lawful.
use Rattle.std.proofs.Common.{◌≡◌, ℕ, zero, suc, ◌+◌, ◌≤◌, true, false, List, [], ◌∷◌, ◌++◌, length, ap, sym, subst, ◌∙◌, refl, arith, append_assoc, append-nil, length-append, ⊎_elim}
use Rattle.std.specs.Prelude.{◌==◌, if◌then◌else◌, Option, Some, None, IfSome, All, is_some, option_and_then, nat_lt}
use Rattle.std.specs.List.{sum_by}
use Rattle.std.proofs.lemmas.Bool.{ltb-false}
use Rattle.std.proofs.lemmas.Bool.Decides.{eqb_tells}
use Rattle.std.proofs.lemmas.List.Sums.{sum_by-cons, sum_by-append}
use Rattle.std.proofs.lemmas.List.Elements.{All-nil, All-cons, All-head, All-tail, All-append, All-weaker}
use Rattle.crush_units.specs.declared.id.ItemId.{ItemId}
use Rattle.crush_units.specs.declared.id.ItemId.TheVariants.{Bucket}
use Rattle.crush_units.specs.Id.{same_id}
use Rattle.crush_units.proofs.Ids.{same_id_tells, same_id_refl}
use Rattle.crush_model.specs.Items.{Items, none, device, bucket}
use Rattle.crush_model.specs.ItemRows.{rows, device_row, bucket_row}
use Rattle.crush_model.specs.Table.{Row, row_of, is_there, parent_of, then_up, climb, above, member, is_below, sum_below, summed_weight, device_count, bucket_count}
use Rattle.crush_model.specs.Lawful.{IsRow, HasParent, Lawful, is_too_heavy, has_too_many}
use Rattle.crush_model.proofs.Reorder.{one_if}
use Rattle.crush_model.proofs.Found.{Distinct, DistinctNames, times, times-cons, times-append, times-is_there, is_there-times, parent_at}
use Rattle.crush_model.proofs.Sums.{Chain, row_below, sum_rows, added_weight, device_sum, below}
use Rattle.crush_model.proofs.Same.{times_used}
use Rattle.crush_model.proofs.Climbs.{times_in, member-times_in, times_in-member, times_in-absent, times_in_once, AreThere, climb_there, climb_length, climb-above, parent_there, by_parent, above_once, is_below-absent, met_rows, sum_by-most}
use Rattle.crush_model.proofs.Appended.{row_of-append}
use Rattle.crush_model.proofs.Weighs.{true_or_false, or_left, or_right, light_sums, light_total, All-found}
use Rattle.crush_units.specs.declared.limits.TheConstants.{MOST_BUCKETS, MOST_DEVICES}

-- an item of the table is still in it after rows are appended
pub is_there-append : (t u : List Row) (i : ItemId) → is_there t i ≡ true → is_there (t ++ u) i ≡ true
is_there-append t u i h = ap is_some (row_of-append t u i) ∙ ap (λ z. is_some (if z then row_of t i else row_of u i)) h ∙ h

AreThere-append : (t u : List Row) (xs : List ℕ) → AreThere t xs → AreThere (t ++ u) xs
AreThere-append t u [] h = tt
AreThere-append t u (x ∷ xs) h = (is_there-append t u (Bucket x) h.0, AreThere-append t u xs h.1)

-- a bucket is not below itself
abbrev pub NoLoop : List Row → Row → Type 0
NoLoop v r = (b : ℕ) → r.id ≡ Bucket b → is_below v b (Bucket b) ≡ false

has_parent : (v front : List Row) (p : Option ℕ) (c : List ℕ) → Chain v p c → AreThere front c → ((i : ItemId) → is_there front i ≡ true → is_there v i ≡ true) → IfSome p (λ q. is_there v (Bucket q) ≡ true)
has_parent v front None c chain there up = tt
has_parent v front (Some q) [] chain there up = absurd chain
has_parent v front (Some q) (x ∷ c) chain there up = ap (λ z. is_there v (Bucket z)) chain.0 ∙ up (Bucket x) there.0

-- each of the rows of items has its parent before it, and no row is below itself
tree_rows : (v : List Row) → Distinct v → (front : List Row) (s : Items) (back : List Row) (p : Option ℕ) (c : List ℕ) → v ≡ front ++ (rows p s ++ back) → Chain v p c → length c ≤ length front → AreThere front c → All (λ (r : Row). HasParent v r × NoLoop v r) (rows p s)
tree_rows v distinct front none back p c e chain le there = All-nil (λ (r : Row). HasParent v r × NoLoop v r)
tree_rows v distinct front (device d r) back p c e chain le there =
    let row = device_row p d in
    let up : (i : ItemId) → is_there front i ≡ true → is_there v i ≡ true = λ i h. ap (λ z. is_there z i) e ∙ is_there-append front (rows p (device d r) ++ back) i h in
    All-cons (λ (x : Row). HasParent v x × NoLoop v x) row (rows p r) (has_parent v front p c chain there up, λ b same. absurd cc)
    (tree_rows v distinct (front ++ row ∷ []) r back p c (e ∙ sym (append_assoc front (row ∷ []) (rows p r ++ back))) chain (omega (arith, length-append front (row ∷ []))) (AreThere-append front (row ∷ []) c there))
tree_rows v distinct front (bucket h w m k r) back p c e chain le there =
    let row = bucket_row p h in
    let below_kids = rows (Some h.id) k in
    let front₁ = front ++ row ∷ [] in
    let front₂ = front₁ ++ below_kids in
    let up : (i : ItemId) → is_there front i ≡ true → is_there v i ≡ true = λ i g. ap (λ z. is_there z i) e ∙ is_there-append front (rows p (bucket h w m k r) ++ back) i g in
    let e₁ : v ≡ front₁ ++ (below_kids ++ (rows p r ++ back)) = e ∙ ap (λ z. front ++ row ∷ z) (append_assoc below_kids (rows p r) back) ∙ sym (append_assoc front (row ∷ []) (below_kids ++ (rows p r ++ back))) in
    let e₂ : v ≡ front₂ ++ (rows p r ++ back) = e₁ ∙ sym (append_assoc front₁ below_kids (rows p r ++ back)) in
    let found : parent_of v (Bucket h.id) ≡ p = ap (λ u. parent_of u (Bucket h.id)) e ∙ parent_at front row ((below_kids ++ rows p r) ++ back) (subst (λ u. times (Bucket h.id) u ≤ 1) e (distinct (Bucket h.id))) in
    let long₁ : length front₁ ≡ length front + 1 = length-append front (row ∷ []) ∙ omega arith in
    let long₂ : length front₂ ≡ length front₁ + length below_kids = length-append front₁ below_kids in
    let own : one_if (same_id (Bucket h.id) (Bucket h.id)) ≡ 1 = ap one_if (same_id_refl (Bucket h.id)) in
    let rest : List Row = (below_kids ++ rows p r) ++ back in
    let counted : times (Bucket h.id) (front ++ row ∷ ((below_kids ++ rows p r) ++ back)) ≤ 1 = subst (λ u. times (Bucket h.id) u ≤ 1) e (distinct (Bucket h.id)) in
    let before : times (Bucket h.id) front ≡ 0 = omega (arith, own, counted, times-append (Bucket h.id) front (row ∷ ((below_kids ++ rows p r) ++ back)), times-cons (Bucket h.id) row ((below_kids ++ rows p r) ++ back)) in
    let fresh : is_there front (Bucket h.id) ≡ false = ⊎_elim (λ yes. absurd (omega (arith, before, is_there-times front (Bucket h.id) yes))) (λ gone. gone) (true_or_false (is_there front (Bucket h.id))) in
    let free : is_below v h.id (Bucket h.id) ≡ false = row_below v front row ((below_kids ++ rows p r) ++ back) h.id c distinct e chain le ∙ times_in-member h.id c (times_in-absent front h.id fresh c there) in
    let here : is_there front₁ (Bucket h.id) ≡ true = times-is_there front₁ (Bucket h.id) (omega (arith, own, times-append (Bucket h.id) front (row ∷ []), times-cons (Bucket h.id) row [])) in
    let there₁ : AreThere front₁ c = AreThere-append front (row ∷ []) c there in
    All-cons (λ (x : Row). HasParent v x × NoLoop v x) row (below_kids ++ rows p r)
    (has_parent v front p c chain there up, λ b same. let is : h.id ≡ b = cc in subst (λ z. is_below v z (Bucket z) ≡ false) is free)
    (All-append (λ (x : Row). HasParent v x × NoLoop v x) below_kids (rows p r)
    (tree_rows v distinct front₁ k (rows p r ++ back) (Some h.id) (h.id ∷ c) e₁ (refl, subst (λ o. Chain v o c) (sym found) chain) (omega arith) (here, there₁))
    (tree_rows v distinct front₂ r back p c e₂ chain (omega arith) (AreThere-append front₁ below_kids c there₁)))

sum_by-same : {X : Type 0} (f g : X → ℕ) (xs : List X) → All (λ x. f x ≡ g x) xs → sum_by f xs ≡ sum_by g xs
sum_by-same f g [] a = refl
sum_by-same f g (x ∷ xs) a = omega (arith, sum_by-cons f x xs, sum_by-cons g x xs, All-head (λ y. f y ≡ g y) x xs a, sum_by-same f g xs (All-tail (λ y. f y ≡ g y) x xs a))

-- what is above an item with this parent: nothing, or the parent and what is above the parent
abbrev pub chain_at : List Row → Option ℕ → List ℕ
chain_at t None = []
chain_at t (Some b) = b ∷ above t (Bucket b)

module _ (t : List Row) (l : Lawful t) (u : List Row) where
  -- following parents from an item of the old table gives the same as before
  parent_kept : (i : ItemId) → is_there t i ≡ true → parent_of (t ++ u) i ≡ parent_of t i
  parent_kept i h = ap (option_and_then (λ (r : Row). r.parent)) (row_of-append t u i ∙ ap (λ z. if z then row_of t i else row_of u i) h)

  climb_kept : (m : ℕ) (i : ItemId) → is_there t i ≡ true → climb (t ++ u) m i ≡ climb t m i
  climb_kept zero i h = refl
  climb_kept (suc m) i h =
      ap (λ o. then_up o (λ p. climb (t ++ u) m (Bucket p))) (parent_kept i h)
      ∙ by_parent (λ o. IfSome o (λ p. is_there t (Bucket p) ≡ true) → then_up o (λ p. climb (t ++ u) m (Bucket p)) ≡ then_up o (λ p. climb t m (Bucket p))) (λ _. refl) (λ p k. ap (λ z. p ∷ z) (climb_kept m (Bucket p) k)) (parent_of t i) (parent_there t t l.parents i)

  pub above_kept : (i : ItemId) → is_there t i ≡ true → above (t ++ u) i ≡ above t i
  above_kept i h = climb_kept (length (t ++ u)) i h ∙ climb-above t l (length (t ++ u)) i (omega (arith, length-append t u))

  chain_climb : (m : ℕ) (i : ItemId) → is_there t i ≡ true → length (climb t (suc m) i) ≤ m → Chain (t ++ u) (parent_of (t ++ u) i) (climb t m i)
  chain_climb zero i h le =
      subst (λ o. Chain (t ++ u) o []) (sym (parent_kept i h)) (by_parent (λ o. length (then_up o (λ p. [])) ≤ 0 → Chain (t ++ u) o []) (λ _. tt) (λ p k. absurd (omega (arith, k))) (parent_of t i) le)
  chain_climb (suc m) i h le =
      subst (λ o. Chain (t ++ u) o (climb t (suc m) i)) (sym (parent_kept i h))
      (by_parent (λ o. IfSome o (λ p. is_there t (Bucket p) ≡ true) → length (then_up o (λ p. climb t (suc m) (Bucket p))) ≤ suc m → Chain (t ++ u) o (then_up o (λ p. climb t m (Bucket p))))
      (λ _ _. tt) (λ p there k. (refl, chain_climb m (Bucket p) there (omega (arith, k)))) (parent_of t i) (parent_there t t l.parents i) le)

  pub chain_above : (p : Option ℕ) → IfSome p (λ b. is_there t (Bucket b) ≡ true) → Chain (t ++ u) p (chain_at t p)
  chain_above None h = tt
  chain_above (Some b) h = (refl, chain_climb (length t) (Bucket b) h (climb_length t l (suc (length t)) (Bucket b) (omega arith)))

  pub chain_there : (p : Option ℕ) → IfSome p (λ b. is_there t (Bucket b) ≡ true) → AreThere t (chain_at t p)
  chain_there None h = tt
  chain_there (Some b) h = (h, climb_there t l.parents (length t) (Bucket b))

  pub chain_length : (p : Option ℕ) → IfSome p (λ b. is_there t (Bucket b) ≡ true) → length (chain_at t p) ≤ length t
  chain_length None h = omega arith
  chain_length (Some b) h = omega (arith, met_rows t (chain_at t (Some b)) (chain_there (Some b) h), sum_by-most (λ (r : Row). times_in r.id (chain_at t (Some b))) (λ r. times_in_once r.id (chain_at t (Some b)) once) t) where
    once : (c : ℕ) → times_in (Bucket c) (b ∷ above t (Bucket b)) ≤ 1
    once c = ⊎_elim
        (λ e. let gone : times_in (Bucket b) (above t (Bucket b)) ≡ 0 = member-times_in b (above t (Bucket b)) (l.loops b) in
        subst (λ z. times_in (Bucket z) (b ∷ above t (Bucket b)) ≤ 1) (sym e.1) (let own : one_if (same_id (Bucket b) (Bucket b)) ≡ 1 = ap one_if (same_id_refl (Bucket b)) in omega (arith, gone, own)))
        (λ e. let other : one_if (c == b) ≡ 0 = ap one_if e.0 in omega (arith, other, above_once t l (Bucket b) c))
        (eqb_tells c b)

  -- the sum over the rows of the old table is the same as before
  pub sum_kept : (c : ℕ) → sum_by (added_weight (t ++ u) c) t ≡ sum_below t c
  sum_kept c = sum_by-same (added_weight (t ++ u) c) (added_weight t c) t (All-weaker (λ (r : Row). row_of t r.id ≡ Some r) (λ (r : Row). added_weight (t ++ u) c r ≡ added_weight t c r)
      (λ r e. ap (λ xs. if member c xs then summed_weight r else 0) (above_kept r.id (ap is_some e))) t (All-found t l.ids))

module _ (t : List Row) (l : Lawful t) (p : Option ℕ) (n : Items) (there : IfSome p (λ b. is_there t (Bucket b) ≡ true)) (distinct : Distinct (t ++ rows p n)) where
  -- the sum of each bucket that is the place or above it grows by the weights of all devices that are appended
  pub sum_below-attach : (c : ℕ) → sum_below (t ++ rows p n) c ≡ sum_below t c + (if member c (chain_at t p) then device_sum n else below c n)
  sum_below-attach c =
      sum_by-append (added_weight (t ++ rows p n) c) t (rows p n) ∙ ap (λ z. z + sum_by (added_weight (t ++ rows p n) c) (rows p n)) (sum_kept t l (rows p n) c)
      ∙ ap (λ z. sum_below t c + z) (sum_rows (t ++ rows p n) c distinct t n [] p (chain_at t p) (ap (λ z. t ++ z) (sym (append-nil (rows p n)))) (chain_above t l (rows p n) p there) (chain_length t l (rows p n) p there))

  tree : All (λ (r : Row). HasParent (t ++ rows p n) r × NoLoop (t ++ rows p n) r) (rows p n)
  tree = tree_rows (t ++ rows p n) distinct t n [] p (chain_at t p) (ap (λ z. t ++ z) (sym (append-nil (rows p n)))) (chain_above t l (rows p n) p there) (chain_length t l (rows p n) p there) (chain_there t l (rows p n) p there)

  pub parents_attach : All (HasParent (t ++ rows p n)) (t ++ rows p n)
  parents_attach = All-append (HasParent (t ++ rows p n)) t (rows p n)
      (All-weaker (HasParent t) (HasParent (t ++ rows p n)) (λ r h. still r.parent h) t l.parents)
      (All-weaker (λ (r : Row). HasParent (t ++ rows p n) r × NoLoop (t ++ rows p n) r) (HasParent (t ++ rows p n)) (λ r h. h.0) (rows p n) tree) where
        still : (o : Option ℕ) → IfSome o (λ q. is_there t (Bucket q) ≡ true) → IfSome o (λ q. is_there (t ++ rows p n) (Bucket q) ≡ true)
        still None h = h
        still (Some q) h = is_there-append t (rows p n) (Bucket q) h

  -- if no row of a list is below itself, then no bucket of the list is
  loop_found : (u : List Row) → All (λ (r : Row). NoLoop (t ++ rows p n) r) u → (b : ℕ) → is_there u (Bucket b) ≡ true → is_below (t ++ rows p n) b (Bucket b) ≡ false
  loop_found [] a b h = absurd cc
  loop_found (r ∷ u) a b h = ⊎_elim
      (λ q. All-head (λ (x : Row). NoLoop (t ++ rows p n) x) r u a b q.1)
      (λ q. loop_found u (All-tail (λ (x : Row). NoLoop (t ++ rows p n) x) r u a) b (sym (ap (λ z. is_some (if z then Some r else row_of u (Bucket b))) q.0) ∙ h))
      (same_id_tells r.id (Bucket b))

  pub loops_attach : (b : ℕ) → is_below (t ++ rows p n) b (Bucket b) ≡ false
  loops_attach b = ⊎_elim
      (λ yes. ap (member b) (above_kept t l (rows p n) (Bucket b) yes) ∙ l.loops b)
      (λ gone. ⊎_elim
      (λ yes. loop_found (rows p n) (All-weaker (λ (r : Row). HasParent (t ++ rows p n) r × NoLoop (t ++ rows p n) r) (λ (r : Row). NoLoop (t ++ rows p n) r) (λ r h. h.1) (rows p n) tree) b yes)
      (λ nowhere. is_below-absent (t ++ rows p n) parents_attach b (ap is_some (row_of-append t (rows p n) (Bucket b)) ∙ ap (λ z. is_some (if z then row_of t (Bucket b) else row_of (rows p n) (Bucket b))) gone ∙ nowhere) (Bucket b))
      (true_or_false (is_there (rows p n) (Bucket b))))
      (true_or_false (is_there t (Bucket b)))

-- THE LAW: rows of items may be appended below a bucket of the table, or as roots, if ids, names and used ids are distinct and sums and counts stay in range
pub Lawful-attach : (t : List Row) (p : Option ℕ) (n : Items) → Lawful t → IfSome p (λ b. is_there t (Bucket b) ≡ true) → All IsRow (rows p n)
    → Distinct (t ++ rows p n) → DistinctNames (t ++ rows p n) → ((k : ℕ) → times_used k (t ++ rows p n) ≤ 1)
    → is_too_heavy (t ++ rows p n) ≡ false → has_too_many (t ++ rows p n) ≡ false → Lawful (t ++ rows p n)
Lawful-attach t p n l there forms ids names used light room = record {
  ids = ids;
  names = names;
  used = used;
  rows = All-append IsRow t (rows p n) l.rows forms;
  parents = parents_attach t l p n there ids;
  loops = loops_attach t l p n there ids;
  sums = light_sums (t ++ rows p n) (parents_attach t l p n there ids) light;
  total = light_total (t ++ rows p n) light;
  devices = ltb-false MOST_DEVICES (device_count (t ++ rows p n)) (or_left (nat_lt MOST_DEVICES (device_count (t ++ rows p n))) (nat_lt MOST_BUCKETS (bucket_count (t ++ rows p n))) room);
  buckets = ltb-false MOST_BUCKETS (bucket_count (t ++ rows p n)) (or_right (nat_lt MOST_DEVICES (device_count (t ++ rows p n))) (nat_lt MOST_BUCKETS (bucket_count (t ++ rows p n))) room);
}

-- the table without rows is lawful
pub Lawful-nil : Lawful []
Lawful-nil = record {
  ids = λ i. omega arith;
  names = λ n. omega arith;
  used = λ k. omega arith;
  rows = All-nil IsRow;
  parents = All-nil (HasParent []);
  loops = λ b. refl;
  sums = λ b. omega arith;
  total = omega arith;
  devices = omega arith;
  buckets = omega arith;
}

-- the law for rows of items that are appended to no other rows
pub Lawful-rows : (n : Items) → All IsRow (rows None n) → Distinct (rows None n) → DistinctNames (rows None n) → ((k : ℕ) → times_used k (rows None n) ≤ 1)
    → is_too_heavy (rows None n) ≡ false → has_too_many (rows None n) ≡ false → Lawful (rows None n)
Lawful-rows n = Lawful-attach [] None n Lawful-nil tt
