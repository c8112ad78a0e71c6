-- Proves that the items of a printed bucket are read, one after the other.
use Rattle.std.proofs.Common.{◌≡◌, ℕ, ◌+◌, ◌<◌, ◌≤◌, ◌^◌, Bool, true, false, List, [], ◌∷◌, ◌++◌, Option, Some, None, refl, sym, ap, subst, ◌∙◌, append_assoc, append-nil, arith}
use Rattle.std.proofs.lemmas.Bool.{eqb-true}
use Rattle.std.proofs.lemmas.List.Elements.{All-nil, All-cons, All-head, All-tail, All-weaker, All-push}
use Rattle.std.proofs.lemmas.List.Sums.{sum_by-cons}
use Rattle.std.specs.Prelude.{All, flat_map, map, not, ◌==◌, ◌||◌, option_and_then, is_some, if◌then◌else◌}
use Rattle.std.specs.List.{count_by}
use Rattle.std.specs.Option.{option_map_or}
use Rattle.crush_units.specs.declared.id.ItemId.{ItemId}
use Rattle.crush_units.specs.declared.id.ItemId.TheVariants.{Device, Bucket}
use Rattle.crush_units.specs.Id.{same_id}
use Rattle.crush_units.proofs.Ids.{same_id_refl}
use Rattle.crush_model.specs.Count.{one_if}
use Rattle.crush_model.specs.Columns.{without_row}
use Rattle.crush_model.specs.Lawful.{Lawful, IsRow, IsRowOf}
use Rattle.crush_model.specs.Table.{Row, is_device_id, row_of, parent_of, kids, sum_below, item_weight}
use Rattle.crush_model.proofs.Weighs.{All-both}
use Rattle.crush_model.proofs.Moved.{row_id}
use Rattle.crush_model.proofs.Renamed.{All-row}
use Rattle.crush_edits.specs.Setting.{SettingData}
use Rattle.crush_map.specs.WrittenItems.{placed_row, put_below, adjustment}
use Rattle.crush_builder.specs.Built.{filling as is_filling, Draft, with_next_item}
use Rattle.crush_builder.specs.Building.{item_named, closed_item}
use Rattle.crush_builder.proofs.ItemSteps.{only_row}
use Rattle.crush_print.specs.declared.weight_form.WeightForm.{WeightForm}
use Rattle.crush_print.proofs.PrintedLines.{item_words, kid_words}
use Rattle.crush_print.proofs.PartTables.{bare}
use Rattle.crush_print.proofs.PartSteps.{with_one, with_one-it, with_one-other}
use Rattle.crush_print.proofs.PartRows.{name_found, sum_found}
use Rattle.crush_print.proofs.PrintedOrder.{add}
use Rattle.crush_text.specs.Form.{at, filling}
use Rattle.crush_text.specs.Flow.{between}
use Rattle.crush_laws.specs.Admitted.{IsLawfulDraft}
use Rattle.crush_laws.proofs.BuiltLines.{Goes, goes_both, item_goes}
use Rattle.crush_laws.proofs.BuiltParts.{open_kids, IsRead, both_ways, read_closed, read_lawful, read_row, read_put}
use Rattle.crush_laws.proofs.BuiltHeads.{built, HasKinds, read_draft}

-- if the count of elements that pass a test is 0, the test is false for each element
none_counted : {X : Type 0} (p : X → Bool) (xs : List X) → count_by p xs ≡ 0 → All (λ x. p x ≡ false) xs
none_counted p [] h = All-nil (λ x. p x ≡ false)
none_counted p (x ∷ xs) h = by_test (p x) refl (none_counted p xs)
  where
    count : count_by p (x ∷ xs) ≡ one_if (p x) + count_by p xs
    count = sum_by-cons (λ y. one_if (p y)) x xs

    by_test : (b : Bool) → p x ≡ b → (count_by p xs ≡ 0 → All (λ y. p y ≡ false) xs) → All (λ y. p y ≡ false) (x ∷ xs)
    by_test true e rest = absurd (let one : one_if (p x) ≡ 1 = ap one_if e in omega (arith, count, one, h))
    by_test false e rest = All-cons (λ y. p y ≡ false) x xs e (rest (omega (arith, count, h)))

-- an item with a parent has a row with this parent
in_bucket : (o : Option Row) (b : ℕ) → option_and_then (λ (y : Row). y.parent) o ≡ Some b → (y : Row) × (o ≡ Some y) × (y.parent ≡ Some b)
in_bucket None b e = absurd (let no : ◌≡◌ {A = Option ℕ} None (Some b) = e in cc)
in_bucket (Some y) b e = (y, refl, e)

-- the weight that the item's line has is the weight of its row
weight_kept : (t : List Row) (i : ItemId) (y : Row) → IsRowOf i y → y.id ≡ i → (if is_device_id y.id then item_weight t i y.weight else 0) ≡ y.weight
weight_kept t (Device d) y f e = λ k. if is_device_id (e k) then y.weight else 0
weight_kept t (Bucket j) y f e = (λ k. if is_device_id (e k) then sum_below t j else 0) ∙ sym f.weight

weighs_little : (t : List Row) → Lawful t → (i : ItemId) (y : Row) → IsRowOf i y → item_weight t i y.weight < 2 ^ 32
weighs_little t l (Device d) y f = let v = f.light in omega (arith, v)
weighs_little t l (Bucket j) y f = let v = l.sums j in omega (arith, v)

itself : (n : ℕ) → (n == n) ≡ true
itself n = grind arith

or_true : (v : Bool) → (v || true) ≡ true
or_true true = refl
or_true false = refl

module _ (form : WeightForm) (s : SettingData) (names : ℕ → List ℕ) (t : List Row) (l : Lawful t) (h : HasKinds s names t) (b : ℕ) (x : Row) (found : row_of t (Bucket b) ≡ Some x)
    (seen : ℕ → Bool) (new : seen b ≡ false) (ready : (j : ℕ) → parent_of t (Bucket j) ≡ Some b → seen j ≡ true) (q : ItemId → Bool) where
  -- the open bucket has no parent, and the draft that is built is lawful
  pub filling_draft : (P : ItemId → Bool) (ds : List ItemId) (u : List Row) → IsRead t seen (add seen b) q P (open_kids t seen b ds) u → IsLawfulDraft (built s u (is_filling b))
  filling_draft P ds u r =
      let row = read_row t l seen (add seen b) q P (open_kids t seen b ds) u r (Bucket b) x found (open_there P ds u r) (by_it (P (Bucket b)) refl) in
      read_draft s names t l h seen (add seen b) q P (open_kids t seen b ds) u r (is_filling b) (record { there = ap is_some row; root = ap (option_and_then (λ (y : Row). y.parent)) row })
    where
      open_there : (P : ItemId → Bool) (ds : List ItemId) (u : List Row) → IsRead t seen (add seen b) q P (open_kids t seen b ds) u → q (Bucket b) ≡ true
      open_there P ds u r = r.buckets b ∙ (λ k. seen b || itself b k) ∙ or_true (seen b)

      by_it : (v : Bool) → P (Bucket b) ≡ v → P (Bucket b) ≡ false
      by_it true e = absurd (both_ways (seen b) (r.done b e) new)
      by_it false e = e

  -- no item of the bucket is the bucket itself
  other_item : (i : ItemId) → parent_of t i ≡ Some b → same_id (Bucket b) i ≡ false
  other_item (Device d) e = refl
  other_item (Bucket j) e = by_it (b == j) refl
    where
      by_it : (v : Bool) → (b == j) ≡ v → (b == j) ≡ false
      by_it true k = absurd (both_ways (seen b) (ap seen (eqb-true b j k) ∙ ready j e) new)
      by_it false k = k

  -- AN ITEM of the bucket is read
  module _ (P : ItemId → Bool) (ds : List ItemId) (u : List Row) (r : IsRead t seen (add seen b) q P (open_kids t seen b ds) u) (i : ItemId) (y : Row) (found_it : row_of t i ≡ Some y) (in_it : y.parent ≡ Some b) (free : P i ≡ false) where
    placed_in : parent_of t i ≡ Some b
    placed_in = ap (option_and_then (λ (z : Row). z.parent)) found_it ∙ in_it

    item_there : (j : ItemId) → parent_of t j ≡ Some b → q j ≡ true
    item_there (Device d) e = r.devices (Device d) refl
    item_there (Bucket j) e = r.buckets j ∙ ap (λ v. v || (b == j)) (ready j e)

    is_in : q i ≡ true
    is_in = item_there i placed_in

    row_there : row_of u i ≡ Some (bare y)
    row_there = read_row t l seen (add seen b) q P (open_kids t seen b ds) u r i y found_it is_in free

    row_form : IsRowOf i y
    row_form = let row = All-row IsRow t l.rows i y found_it in subst (λ (j : ItemId). IsRowOf j y) (row_id i t y found_it) row.form

    named : item_named (built s u (is_filling b)) y.name ≡ Some i
    named = ap (option_and_then (closed_item (is_filling b))) (name_found t l q P (read_closed t l seen (add seen b) q P (open_kids t seen b ds) u r) u r.rows i (bare y) row_there)
        ∙ (λ k. if other_item i placed_in k then None else Some i)

    no_adjustment : (j : ItemId) → parent_of t j ≡ Some b → adjustment u j (Some (item_weight t j y.weight)) ≡ 0
    no_adjustment (Device d) e = refl
    no_adjustment (Bucket j) e =
        let sum : sum_below u j ≡ sum_below t j = sum_found t l q P (read_closed t l seen (add seen b) q P (open_kids t seen b ds) u r) u r.rows seen r.full r.done r.devices j (ready j e) in
        ap (λ (n : ℕ). one_if (not (sum_below t j == n))) sum ∙ ap (λ v. one_if (not v)) (itself (sum_below t j))

    put_row : put_below b i (item_weight t i y.weight) u ≡ without_row i u ++ y ∷ []
    put_row =
        let lawful = read_lawful t l seen (add seen b) q P (open_kids t seen b ds) u r in
        let weight = weight_kept t i y row_form (row_id i t y found_it) in
        let row : placed_row b (item_weight t i y.weight) (bare y) ≡ y = λ k. record y { parent = sym in_it k; weight = weight k } in
        ap (λ (zs : List Row). without_row i u ++ map (placed_row b (item_weight t i y.weight)) zs) (only_row u i (bare y) (lawful.ids i) row_there) ∙ ap (λ (z : Row). without_row i u ++ z ∷ []) row

    with_item-is : with_next_item (built s u (is_filling b)) i (Some (item_weight t i y.weight)) ≡ built s (without_row i u ++ y ∷ []) (is_filling b)
    with_item-is =
        let none : 0 + adjustment u i (Some (item_weight t i y.weight)) ≡ 0 = omega (arith, no_adjustment i placed_in) in
        λ k. record { setting = s; table = put_row k; pending = is_filling b; adjusted = none k }

    pub item_read : IsRead t seen (add seen b) q (with_one P i) (open_kids t seen b (ds ++ i ∷ [])) (without_row i u ++ y ∷ [])
    item_read = read_put t l b i y found_it in_it seen q P ds u r (r.buckets b ∙ (λ k. seen b || itself b k) ∙ or_true (seen b)) is_in free (λ j e. ready j (ap (parent_of t) (sym e) ∙ placed_in))

    -- the words of the item's line lead to the table in which the bucket has this item
    pub item_leads : (any : Bool) (others : List (List ℕ)) → Goes (between (at (filling any) (built s u (is_filling b)))) (kid_words form t i) others (between (at (filling true) (built s (without_row i u ++ y ∷ []) (is_filling b))))
    item_leads any others =
        let is = with_item-is in
        subst (λ (o : Option Row). Goes (between (at (filling any) (built s u (is_filling b)))) (option_map_or (λ (z : Row). item_words form z.name (item_weight t i z.weight)) o []) others (between (at (filling true) (built s (without_row i u ++ y ∷ []) (is_filling b))))) (sym found_it)
        (subst (λ (d : Draft). Goes (between (at (filling any) (built s u (is_filling b)))) (item_words form y.name (item_weight t i y.weight)) others (between (at (filling true) d))) is
        (item_goes form any (built s u (is_filling b)) i y.name (item_weight t i y.weight) others named (ap (λ (o : Option Row). is_some (option_and_then (λ (z : Row). z.parent) o)) row_there) (weighs_little t l i y row_form)
        (subst IsLawfulDraft (sym is) (filling_draft (with_one P i) (ds ++ i ∷ []) (without_row i u ++ y ∷ []) item_read))))

-- THE OPEN BUCKET IS FILLED: after the words of all items, the bucket has all its items
pub record IsFilled (s : SettingData) (t : List Row) (seen : ℕ → Bool) (b : ℕ) (q : ItemId → Bool) (any : Bool) (u : List Row) (words others : List (List ℕ)) : Type 0 where
  pub some : Bool
  pub places : ItemId → Bool
  pub table : List Row
  pub read : IsRead t seen (add seen b) q places (open_kids t seen b (kids t b)) table
  pub placed : All (λ (k : ItemId). places k ≡ true) (kids t b)
  pub goes : Goes (between (at (filling any) (built s u (is_filling b)))) words others (between (at (filling some) (built s table (is_filling b))))

module _ (form : WeightForm) (s : SettingData) (names : ℕ → List ℕ) (t : List Row) (l : Lawful t) (h : HasKinds s names t) (b : ℕ) (x : Row) (found : row_of t (Bucket b) ≡ Some x)
    (seen : ℕ → Bool) (new : seen b ≡ false) (ready : (j : ℕ) → parent_of t (Bucket j) ≡ Some b → seen j ≡ true) (q : ItemId → Bool) where
  pub items_lead : (ks ds : List ItemId) (any : Bool) (P : ItemId → Bool) (u : List Row) (others : List (List ℕ)) → ds ++ ks ≡ kids t b → IsRead t seen (add seen b) q P (open_kids t seen b ds) u
      → All (λ (k : ItemId). P k ≡ true) ds → All (λ (k : ItemId). P k ≡ false) ks → All (λ (k : ItemId). parent_of t k ≡ Some b) ks → ((i : ItemId) → count_by (λ (k : ItemId). same_id k i) ks ≤ 1)
      → IsFilled s t seen b q any u (flat_map (kid_words form t) ks) others
  items_lead [] ds any P u others e r placed free parents once =
      let all : ds ≡ kids t b = sym (append-nil ds) ∙ e in
      record {
        some = any;
        places = P;
        table = u;
        read = subst (λ (es : List ItemId). IsRead t seen (add seen b) q P (open_kids t seen b es) u) all r;
        placed = subst (All (λ (k : ItemId). P k ≡ true)) all placed;
        goes = refl;
      }
  items_lead (i ∷ ks) ds any P u others e r placed free parents once =
      let y = in_bucket (row_of t i) b (All-head (λ (k : ItemId). parent_of t k ≡ Some b) i ks parents) in
      let loose = All-head (λ (k : ItemId). P k ≡ false) i ks free in
      let one : one_if (same_id i i) ≡ 1 = ap one_if (same_id_refl i) in
      let none = none_counted (λ (k : ItemId). same_id k i) ks (omega (arith, one, once i, sum_by-cons (λ (k : ItemId). one_if (same_id k i)) i ks)) in
      let rest = items_lead ks (ds ++ i ∷ []) true (with_one P i) (without_row i u ++ y.0 ∷ []) others (append_assoc ds (i ∷ []) ks ∙ e)
      (item_read form s names t l h b x found seen new ready q P ds u r i y.0 y.1 y.2 loose)
      (All-push (λ (k : ItemId). with_one P i k ≡ true) ds i (All-weaker (λ (k : ItemId). P k ≡ true) (λ (k : ItemId). with_one P i k ≡ true) (λ k c. ap (λ v. v || same_id k i) c) ds placed) (with_one-it P i))
      (All-weaker (λ (k : ItemId). (P k ≡ false) × (same_id k i ≡ false)) (λ (k : ItemId). with_one P i k ≡ false) (λ k c. with_one-other P i k c.1 ∙ c.0) ks
      (All-both (λ (k : ItemId). P k ≡ false) (λ (k : ItemId). same_id k i ≡ false) ks (All-tail (λ (k : ItemId). P k ≡ false) i ks free) none))
      (All-tail (λ (k : ItemId). parent_of t k ≡ Some b) i ks parents)
      (λ j. omega (arith, once j, sum_by-cons (λ (k : ItemId). one_if (same_id k j)) i ks)) in
      record {
        some = rest.some;
        places = rest.places;
        table = rest.table;
        read = rest.read;
        placed = rest.placed;
        goes = goes_both (between (at (filling any) (built s u (is_filling b)))) (kid_words form t i) (flat_map (kid_words form t) ks) others
            (between (at (filling true) (built s (without_row i u ++ y.0 ∷ []) (is_filling b)))) (between (at (filling rest.some) (built s rest.table (is_filling b))))
            (item_leads form s names t l h b x found seen new ready q P ds u r i y.0 y.1 y.2 loose any (flat_map (kid_words form t) ks ++ others)) rest.goes;
      }
