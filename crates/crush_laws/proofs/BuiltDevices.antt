-- Proves that the printed lines of devices build the part of the table that has the devices, each without a parent.
use Rattle.std.proofs.Common.{◌≡◌, ℕ, ◌+◌, ◌<◌, ◌≤◌, ◌^◌, Bool, true, false, List, [], ◌∷◌, ◌++◌, Option, Some, None, refl, sym, ap, subst, ◌∙◌, arith, eq-eqb, ⊎_elim}
use Rattle.std.proofs.lemmas.Bool.{ne_eqb}
use Rattle.std.proofs.lemmas.Bool.Decides.{nat_tests, eqb_tells}
use Rattle.std.proofs.lemmas.List.Concat.{flat_map-append}
use Rattle.std.proofs.lemmas.List.Elements.{All-nil, All-cons, All-head, All-tail}
use Rattle.std.proofs.lemmas.List.Sums.{sum_by-append, sum_by-cons}
use Rattle.std.specs.Prelude.{All, map, filter, flat_map, codes, decimal, nat_lt, is_some, ◌||◌, ◌==◌, if◌then◌else◌}
use Rattle.std.specs.List.{count_by}
use Rattle.std.specs.Option.{option_map_or}
use Rattle.crush_units.specs.declared.id.ItemId.{ItemId}
use Rattle.crush_units.specs.declared.id.ItemId.TheVariants.{Device, Bucket}
use Rattle.crush_units.specs.Id.{same_id, is_device_id}
use Rattle.crush_units.proofs.Ids.{same_id_refl}
use Rattle.crush_model.specs.Count.{one_if}
use Rattle.crush_model.specs.Reordered.{IsReordered}
use Rattle.crush_model.specs.Table.{Row, row_of, is_there, is_parent, kids}
use Rattle.crush_model.specs.Lawful.{Lawful, IsRow, IsRowOf, IsDeviceRow}
use Rattle.crush_model.specs.Same.{Same}
use Rattle.crush_model.specs.ItemRows.{device_row}
use Rattle.crush_model.proofs.Found.{times-is_there}
use Rattle.crush_model.proofs.KidSums.{sum_by-agree}
use Rattle.crush_model.proofs.Moved.{row_id}
use Rattle.crush_model.proofs.Renamed.{All-row}
use Rattle.crush_model.proofs.Reorder.{reordered-All, sum_by-flat_map}
use Rattle.crush_edits.specs.Setting.{TunableData}
use Rattle.crush_edits.specs.Fits.{Fits}
use Rattle.crush_edits.proofs.FitLaws.{Fits-push}
use Rattle.crush_print.specs.Lines.{id_text}
use Rattle.crush_print.specs.MapText.{device_number, device_numbers}
use Rattle.crush_print.proofs.Sorting.{times, times-ascending}
use Rattle.crush_print.proofs.PrintedLines.{class_words, device_words, words_of}
use Rattle.crush_print.proofs.PartTables.{bare, part_of}
use Rattle.crush_print.proofs.PartSteps.{with_one, IsClosed}
use Rattle.crush_print.proofs.PartRows.{rows_lawful, rows_more}
use Rattle.crush_text.specs.Form.{first, at}
use Rattle.crush_text.specs.Flow.{State, between}
use Rattle.crush_text.specs.Document.{IsMap}
use Rattle.crush_laws.specs.Admitted.{IsLawfulDraft}
use Rattle.crush_laws.proofs.BuiltLines.{Goes, device_goes}
use Rattle.crush_laws.proofs.BuiltEach.{quiet, quiet_map, quiet_lawful, Led, EachLeads, each_goes, Avoids, avoids_both, avoids_all, none_before, All-split, tuned}

-- HOW OFTEN a device's number is printed: as often as the table has a row for the device
own_number : (d : ℕ) (i : ItemId) → times d (device_number i) ≡ one_if (same_id i (Device d))
own_number d (Device x) = omega (arith, sum_by-cons (λ y. one_if (y == d)) x [])
own_number d (Bucket b) = refl

device_times : (d : ℕ) (t : List Row) → times d (device_numbers t) ≡ count_by (λ (r : Row). same_id r.id (Device d)) t
unfolding device_numbers
device_times d t =
    times-ascending d (flat_map (λ (r : Row). device_number r.id) t) ∙ sum_by-flat_map (λ y. one_if (y == d)) (λ (r : Row). device_number r.id) t
    ∙ sum_by-agree (λ (r : Row). times d (device_number r.id)) (λ (r : Row). one_if (same_id r.id (Device d))) (λ r. own_number d r.id) t

-- the test whether an item is a device with one of these numbers
abbrev pub is_seen : List ℕ → ItemId → Bool
is_seen ns (Device d) = nat_lt 0 (times d ns)
is_seen ns (Bucket b) = false

seen_here : (n m : ℕ) → 1 ≤ m → nat_lt 0 (n + m) ≡ true
seen_here n m h = grind (arith, nat_tests)

or_true : (b : Bool) → (b || true) ≡ true
or_true true = refl
or_true false = refl

or_false : (b : Bool) → (b || false) ≡ b
or_false true = refl
or_false false = refl

seen_more : (ns : List ℕ) (x : ℕ) (i : ItemId) → with_one (is_seen ns) (Device x) i ≡ is_seen (ns ++ x ∷ []) i
seen_more ns x (Bucket b) = refl
seen_more ns x (Device d) = ⊎_elim
    (λ p. let one : one_if (x == d) ≡ 1 = ap one_if (eq-eqb x d (sym p.1)) in
    ap (λ b. nat_lt 0 (times d ns) || b) p.0 ∙ or_true (nat_lt 0 (times d ns)) ∙ sym (seen_here (times d ns) 1 (omega arith)) ∙ ap (nat_lt 0) (omega (arith, one, count)))
    (λ p. let none : one_if (x == d) ≡ 0 = ap one_if (ne_eqb x d (λ e. p.1 (sym e))) in
    ap (λ b. nat_lt 0 (times d ns) || b) p.0 ∙ or_false (nat_lt 0 (times d ns)) ∙ ap (nat_lt 0) (omega (arith, none, count)))
    (eqb_tells d x)
  where
    count : times d (ns ++ x ∷ []) ≡ times d ns + one_if (x == d)
    count = omega (arith, sum_by-append (λ y. one_if (y == d)) ns (x ∷ []), sum_by-cons (λ y. one_if (y == d)) x [])

-- no item already has its final parent
abbrev pub nowhere : ItemId → Bool
nowhere i = false

no_closed : (t : List Row) (l : Lawful t) (q : ItemId → Bool) → IsClosed t l q nowhere
no_closed t l q i p a b e = absurd (let no : false ≡ true = b in cc)

-- the row of a device, without its parent and its weight
abbrev pub bare_rows : Option Row → List Row
bare_rows None = []
bare_rows (Some r) = bare r ∷ []

abbrev pub seen_rows : List Row → List ℕ → List Row
seen_rows t ns = flat_map (λ d. bare_rows (row_of t (Device d))) ns

rows_grow : (t : List Row) (ns : List ℕ) (x : ℕ) (r : Row) → row_of t (Device x) ≡ Some r → seen_rows t (ns ++ x ∷ []) ≡ seen_rows t ns ++ bare r ∷ []
rows_grow t ns x r e = flat_map-append (λ d. bare_rows (row_of t (Device d))) ns (x ∷ []) ∙ ap (λ o. seen_rows t ns ++ (bare_rows o ++ [])) e

some_row : (o : Option Row) → is_some o ≡ true → (r : Row) × (o ≡ Some r)
some_row None h = absurd (let no : false ≡ true = h in cc)
some_row (Some r) h = (r, refl)

-- the row that the line builds
line_row : (r : Row) (x : ℕ) → r.id ≡ Device x → IsDeviceRow x r → device_row None (record { id = x; name = r.name; weight = 0; class = r.class }) ≡ bare r
line_row r x e h =
    let kind = h.kind in
    let alg = h.alg in
    let ids = h.class_ids in
    λ k. record { id = sym e k; kind = sym kind k; name = r.name; parent = None; weight = 0; class = r.class; alg = sym alg k; class_ids = sym ids k }

-- no line of a device begins with `class`
row_avoids : (o : Option Row) → Avoids (codes "class") (option_map_or device_words o [])
row_avoids None = refl
row_avoids (Some r) = refl

module _ (tunables : List TunableData) (t : List Row) (l : Lawful t) where
  abbrev pub seen_state : List ℕ → State
  seen_state ns = between (at first (quiet (tuned tunables) (seen_rows t ns)))

  pub record Seen (ns : List ℕ) : Type 0 where
    pub map : IsMap (quiet (tuned tunables) (seen_rows t ns))
    pub rows : IsReordered (part_of (is_seen ns) nowhere t) (seen_rows t ns)

  device_form : (x : ℕ) (r : Row) → row_of t (Device x) ≡ Some r → IsDeviceRow x r
  device_form x r e = let row = All-row IsRow t l.rows (Device x) r e in by_id r.id (row_id (Device x) t r e) row.form
    where
      by_id : (i : ItemId) → i ≡ Device x → IsRowOf i r → IsDeviceRow x r
      by_id i e f = subst (λ j. IsRowOf j r) e f

  module _ (others : List (List ℕ)) (free : Avoids (codes "class") others) where
    device_leads : EachLeads (λ d. words_of t (Device d) device_words) seen_state Seen (device_numbers t) others
    device_leads front x rest e seen = by_row (some_row (row_of t (Device x)) there)
      where
        there : is_there t (Device x) ≡ true
        there = times-is_there t (Device x) (omega (arith, device_times x t, ap (times x) e, sum_by-append (λ y. one_if (y == x)) front (x ∷ rest), sum_by-cons (λ y. one_if (y == x)) x rest, ap one_if (eq-eqb x x refl)))

        new : is_seen front (Device x) ≡ false
        new = ap (nat_lt 0) (none_before (λ y. y == x) front x rest (device_numbers t) e (let once = l.ids (Device x) in omega (arith, once, device_times x t)) (eq-eqb x x refl))

        by_row : (r : Row) × (row_of t (Device x) ≡ Some r) → Led (Seen (front ++ x ∷ [])) (seen_state front) (words_of t (Device x) device_words) (flat_map (λ d. words_of t (Device d) device_words) rest ++ others) (seen_state (front ++ x ∷ []))
        by_row p =
            let r = p.0 in
            let form = device_form x r p.1 in
            let row = All-row IsRow t l.rows (Device x) r p.1 in
            let is = row_id (Device x) t r p.1 in
            let u = seen_rows t front in
            let q : ItemId → Bool = is_seen (front ++ x ∷ []) in
            let grown = rows_grow t front x r p.1 in
            let made : u ++ device_row None (record { id = x; name = r.name; weight = 0; class = r.class }) ∷ [] ≡ seen_rows t (front ++ x ∷ []) = ap (λ y. u ++ y ∷ []) (line_row r x is form) ∙ sym grown in
            let more = rows_more t l (is_seen front) nowhere (no_closed t l (is_seen front)) u seen.rows (Device x) r (no_closed t l (with_one (is_seen front) (Device x))) new refl p.1 in
            let rows : IsReordered (part_of q nowhere t) (seen_rows t (front ++ x ∷ [])) = subst (λ y. IsReordered (part_of q nowhere t) y) (sym grown) (subst (λ (g : ItemId → Bool). IsReordered (part_of g nowhere t) (u ++ bare r ∷ [])) (λ k i. seen_more front x i k) more) in
            let lawful = rows_lawful t l q nowhere (no_closed t l q) (seen_rows t (front ++ x ∷ [])) rows in
            let before = seen.map.fits in
            let kind = form.kind in
            let fits = subst (λ y. Fits (tuned tunables) y) (sym grown) (Fits-push (tuned tunables) u (bare r) before (λ some. absurd (omega (arith, kind, some)))) in
            let map = quiet_map (tuned tunables) (seen_rows t (front ++ x ∷ [])) lawful fits in
            let small : x < 10 ^ 10 = let v = form.id in omega (arith, v) in
            let behind : List (List ℕ) = flat_map (λ d. words_of t (Device d) device_words) rest ++ others in
            let avoids = avoids_both (codes "class") (flat_map (λ d. words_of t (Device d) device_words) rest) others (avoids_all (codes "class") (λ d. words_of t (Device d) device_words) rest (λ d. row_avoids (row_of t (Device d)))) free in
            let goes = device_goes (quiet (tuned tunables) u) x r.name r.class behind small avoids (subst (λ y. IsLawfulDraft (quiet (tuned tunables) y)) (sym made) (quiet_lawful (tuned tunables) (seen_rows t (front ++ x ∷ [])) map)) in
            let words : codes "device" ∷ decimal x ∷ r.name ∷ class_words r.class ≡ words_of t (Device x) device_words = ap (λ i. codes "device" ∷ id_text i ∷ r.name ∷ class_words r.class) (sym is) ∙ ap (λ o. option_map_or device_words o []) (sym p.1) in
            record {
              holds = record { map = map; rows = rows };
              goes = subst (λ y. Goes (seen_state front) (words_of t (Device x) device_words) behind (between (at first (quiet (tuned tunables) y)))) made
                  (subst (λ ws. Goes (seen_state front) ws behind (between (at first (quiet (tuned tunables) (u ++ device_row None (record { id = x; name = r.name; weight = 0; class = r.class }) ∷ []))))) words goes);
            }

    pub devices_go : Seen [] → Led (Seen (device_numbers t)) (seen_state []) (flat_map (λ d. words_of t (Device d) device_words) (device_numbers t)) others (seen_state (device_numbers t))
    devices_go seen = each_goes (λ d. words_of t (Device d) device_words) seen_state Seen (device_numbers t) others device_leads [] (device_numbers t) refl seen

  -- before the first line no device was read
  none_seen : (i : ItemId) → is_seen [] i ≡ false
  none_seen (Device d) = refl
  none_seen (Bucket b) = refl

  no_part : (rs : List Row) → part_of (is_seen []) nowhere rs ≡ []
  no_part [] = refl
  no_part (r ∷ rs) = ap (λ b. if b then bare r ∷ part_of (is_seen []) nowhere rs else part_of (is_seen []) nowhere rs) (none_seen r.id) ∙ no_part rs

  pub seen_nothing : IsMap (quiet (tuned tunables) []) → Seen []
  seen_nothing m = record { map = m; rows = subst (λ rs. IsReordered rs []) (sym (no_part t)) IsReordered.nothing }

  -- after the last line all devices were read
  part_alike : (p q : ItemId → Bool) (rs : List Row) → All (λ (r : Row). p r.id ≡ q r.id) rs → part_of p nowhere rs ≡ part_of q nowhere rs
  part_alike p q [] a = refl
  part_alike p q (r ∷ rs) a = λ k. if All-head (λ (x : Row). p x.id ≡ q x.id) r rs a k then bare r ∷ part_alike p q rs (All-tail (λ (x : Row). p x.id ≡ q x.id) r rs a) k else part_alike p q rs (All-tail (λ (x : Row). p x.id ≡ q x.id) r rs a) k

  some_there : (n : ℕ) → 1 ≤ n → nat_lt 0 n ≡ true
  some_there n h = grind (arith, nat_tests)

  seen_all : (i : ItemId) → 1 ≤ count_by (λ (r : Row). same_id r.id i) t → is_seen (device_numbers t) i ≡ is_device_id i
  seen_all (Bucket b) h = refl
  seen_all (Device d) h = ap (nat_lt 0) (device_times d t) ∙ some_there (count_by (λ (r : Row). same_id r.id (Device d)) t) h

  all_seen : All (λ (r : Row). is_seen (device_numbers t) r.id ≡ is_device_id r.id) t
  all_seen = All-split (λ (r : Row). is_seen (device_numbers t) r.id ≡ is_device_id r.id) t (λ front r rest e. seen_all r.id (own front r rest e)) [] t refl
    where
      own : (front : List Row) (r : Row) (rest : List Row) → front ++ r ∷ rest ≡ t → 1 ≤ count_by (λ (x : Row). same_id x.id r.id) t
      own front r rest e =
          omega (arith, ap (count_by (λ (x : Row). same_id x.id r.id)) e, sum_by-append (λ (x : Row). one_if (same_id x.id r.id)) front (r ∷ rest), sum_by-cons (λ (x : Row). one_if (same_id x.id r.id)) r rest, ap one_if (same_id_refl r.id))

  -- none of these devices has a parent
  bare_part : (q : ItemId → Bool) (rs : List Row) → All (λ (r : Row). r.parent ≡ None) (part_of q nowhere rs)
  bare_part q [] = All-nil (λ (r : Row). r.parent ≡ None)
  bare_part q (r ∷ rs) = by_test (q r.id) (bare_part q rs)
    where
      by_test : (b : Bool) → All (λ (x : Row). x.parent ≡ None) (part_of q nowhere rs) → All (λ (x : Row). x.parent ≡ None) (if b then bare r ∷ part_of q nowhere rs else part_of q nowhere rs)
      by_test true a = All-cons (λ (x : Row). x.parent ≡ None) (bare r) (part_of q nowhere rs) refl a
      by_test false a = a

  no_kids : (b : ℕ) (rs : List Row) → All (λ (r : Row). r.parent ≡ None) rs → kids rs b ≡ []
  no_kids b [] a = refl
  no_kids b (r ∷ rs) a =
      ap (λ p. map (λ (x : Row). x.id) (if is_parent b p then r ∷ filter (λ (x : Row). is_parent b x.parent) rs else filter (λ (x : Row). is_parent b x.parent) rs)) (All-head (λ (x : Row). x.parent ≡ None) r rs a)
      ∙ no_kids b rs (All-tail (λ (x : Row). x.parent ≡ None) r rs a)

  -- THE DEVICES THAT ARE BUILT are the devices of the table
  pub devices_same : Seen (device_numbers t) → Same (part_of is_device_id (λ _. false) t) (seen_rows t (device_numbers t))
  devices_same seen =
      let rows : IsReordered (part_of is_device_id nowhere t) (seen_rows t (device_numbers t)) = subst (λ rs. IsReordered rs (seen_rows t (device_numbers t))) (part_alike (is_seen (device_numbers t)) is_device_id t all_seen) seen.rows in
      record {
        rows = rows;
        kids = λ b. no_kids b (part_of is_device_id nowhere t) (bare_part is_device_id t)
            ∙ sym (no_kids b (seen_rows t (device_numbers t)) (reordered-All (λ (r : Row). r.parent ≡ None) rows (bare_part is_device_id t)));
      }
