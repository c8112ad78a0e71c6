-- Proves that the first lines of a printed bucket are read: its type and name, its id, its class ids, and its algorithm.
use Rattle.std.proofs.Common.{◌≡◌, ℕ, ◌<◌, ◌≤◌, Bool, true, false, List, [], ◌∷◌, ◌++◌, Option, Some, None, refl, sym, ap, subst, ◌∙◌, append_assoc, append-nil, length-append, arith}
use Rattle.std.proofs.lemmas.Bool.{and_parts}
use Rattle.std.proofs.lemmas.Bool.Decides.{nat_tests}
use Rattle.std.proofs.lemmas.List.Elements.{All-nil, All-cons, All-head, All-tail, All-map, All-filter, All-weaker}
use Rattle.std.proofs.lemmas.List.Sums.{sum_by-cons, sum_by-append}
use Rattle.std.specs.Prelude.{All, map, flat_map, codes, not, unwrap_or, nat_lt, bytes_eq, ◌==◌, option_and_then, is_some, if◌then◌else◌}
use Rattle.std.specs.List.{count_by}
use Rattle.std.specs.Option.{option_map_or}
use Rattle.crush_units.specs.declared.alg.Alg.{Alg}
use Rattle.crush_units.specs.declared.id.ItemId.{ItemId}
use Rattle.crush_units.specs.declared.id.ItemId.TheVariants.{Device, Bucket}
use Rattle.crush_units.specs.Id.{is_device_id}
use Rattle.crush_units.specs.Alg.{alg_text}
use Rattle.crush_model.specs.Count.{one_if}
use Rattle.crush_model.specs.Items.{ShadowData}
use Rattle.crush_model.specs.ItemRows.{bucket_row}
use Rattle.crush_model.specs.Lawful.{Lawful, IsRow, IsRowOf, IsBucketRow, IsShadowId}
use Rattle.crush_model.specs.Reordered.{IsReordered}
use Rattle.crush_model.specs.Table.{Row, is_bucket, row_of, member, used_ids, bucket_ids}
use Rattle.crush_model.proofs.Reorder.{reordered-All, map_append}
use Rattle.crush_model.proofs.Renamed.{All-row}
use Rattle.crush_model.proofs.Weighs.{All-found, All-both}
use Rattle.crush_model.proofs.Moved.{row_id}
use Rattle.crush_model.proofs.Same.{uses}
use Rattle.crush_model.proofs.Appended.{times_used-push}
use Rattle.crush_edits.specs.Setting.{RuleData, SettingData, kind_number, bucket_taken}
use Rattle.crush_edits.specs.Fits.{Fits, IsSetting, HasKind, IsThere}
use Rattle.crush_builder.specs.Built.{Pending, nothing, begun, numbered as is_numbered, filling as is_filling, Draft, with_alg}
use Rattle.crush_builder.specs.Building.{CanBegin, CanNumber, IsPending, is_bucket_kind, is_some_above_zero, own_ids}
use Rattle.crush_builder.proofs.RowSteps.{named_bucket_kind}
use Rattle.crush_print.proofs.PrintedLines.{head_words, class_id_words, choice_words}
use Rattle.crush_print.proofs.PrintedTexts.{All-left}
use Rattle.crush_print.proofs.PartTables.{bare, shown, part_of}
use Rattle.crush_print.proofs.PartSteps.{with_one, with_one-it}
use Rattle.crush_print.proofs.PartRows.{name_free, id_free}
use Rattle.crush_print.proofs.PrintedOrder.{add}
use Rattle.crush_text.specs.Role.{kind_of_word}
use Rattle.crush_text.specs.Form.{at, numbered, filling}
use Rattle.crush_text.specs.Flow.{between}
use Rattle.crush_laws.specs.Admitted.{IsLawfulDraft}
use Rattle.crush_laws.proofs.Admitted.{opens}
use Rattle.crush_laws.proofs.Allowed.{type_named}
use Rattle.crush_laws.proofs.BuiltLines.{Goes, goes_both, idle, head_goes, class_id_goes, alg_goes}
use Rattle.crush_laws.proofs.BuiltParts.{whole_kids, open_kids, IsRead, read_closed, read_more, read_lawful, read_row, fresh, unplaced, read_opened}

-- the draft that is built if no weight was adjusted
abbrev pub built : SettingData → List Row → Pending → Draft
built s u p = record { setting = s; table = u; pending = p; adjusted = 0 }

-- the setting has the types of the table's buckets, with the names that `names` gives, and it has no rules
pub record HasKinds (s : SettingData) (names : ℕ → List ℕ) (t : List Row) : Type 0 where
  pub setting : IsSetting s
  pub unruled : s.rules ≡ []
  pub kinds : (b : ℕ) (x : Row) → row_of t (Bucket b) ≡ Some x → kind_number s (names x.kind) ≡ Some x.kind

-- the row of a bucket in a lawful table has the form of a bucket's row
pub bucket_form : (t : List Row) → Lawful t → (b : ℕ) (x : Row) → row_of t (Bucket b) ≡ Some x → IsBucketRow b x
bucket_form t l b x e = let row = All-row IsRow t l.rows (Bucket b) x e in subst (λ (i : ItemId). IsRowOf i x) (row_id (Bucket b) t x e) row.form

module _ (s : SettingData) (names : ℕ → List ℕ) (t : List Row) (l : Lawful t) (h : HasKinds s names t) where
  kind_known : (b : ℕ) (x : Row) → row_of t (Bucket b) ≡ Some x → is_bucket_kind s x.kind ≡ true
  kind_known b x e =
      let form = bucket_form t l b x e in
      let v = form.kind_some in
      let some : nat_lt 0 x.kind ≡ true = grind (arith, nat_tests) in
      named_bucket_kind s (names x.kind) x.kind (h.kinds b x e) (ap is_some_above_zero (h.kinds b x e) ∙ some)

  -- THE SETTING FITS each part of the table
  has_kind : (i : ItemId) (x : Row) → IsRowOf i x → row_of t i ≡ Some x → HasKind s x
  has_kind (Device d) x f e = λ some. let v = f.kind in absurd (omega (arith, some, v))
  has_kind (Bucket b) x f e = λ some. (and_parts (nat_lt 0 x.kind) _ (kind_known b x e)).1

  kept : (v : Bool) (x : Row) → HasKind s x → HasKind s (if v then x else bare x)
  kept true x k = k
  kept false x k = k

  part_types : (q P : ItemId → Bool) → All (HasKind s) (part_of q P t)
  part_types q P =
      All-filter (λ (x : Row). q x.id) (HasKind s) (map (shown P) t)
      (All-map (HasKind s) (shown P) t (All-weaker (λ (x : Row). IsRow x × (row_of t x.id ≡ Some x)) (λ (x : Row). HasKind s (shown P x))
      (λ x f. let row = f.0 in kept (P x.id) x (has_kind x.id x row.form f.1)) t (All-both IsRow (λ (x : Row). row_of t x.id ≡ Some x) t l.rows (All-found t l.ids))))

  fits_part : (q P : ItemId → Bool) (u : List Row) → IsReordered (part_of q P t) u → Fits s u
  fits_part q P u rows = record {
    setting = h.setting;
    types = reordered-All (HasKind s) rows (part_types q P);
    taken = subst (λ (rs : List RuleData). All (IsThere u) (flat_map (λ (r : RuleData). flat_map bucket_taken r.steps) rs)) (sym h.unruled) (All-nil (IsThere u));
  }

  -- the draft that is built is lawful
  pub read_draft : (seen there : ℕ → Bool) (q P : ItemId → Bool) (items : ℕ → List ItemId) (u : List Row) → IsRead t seen there q P items u → (p : Pending) → IsPending s u p → IsLawfulDraft (built s u p)
  read_draft seen there q P items u r p k = record { map = record { lawful = read_lawful t l seen there q P items u r; fits = fits_part q P u r.rows }; pending = k }

-- if the table can have all class ids of a bucket, it can have a prefix of them
pub front_number : (u : List Row) (b : ℕ) (xs ys : List ShadowData) → CanNumber u b (xs ++ ys) → CanNumber u b xs
front_number u b xs ys n = record {
  some = n.some;
  most = n.most;
  free = n.free;
  form = All-left IsShadowId xs ys n.form;
  fresh = All-left (λ (c : ShadowData). member c.id (used_ids u) ≡ false) xs ys n.fresh;
  apart = λ k. omega (
    arith,
    n.apart k,
    sum_by-cons (λ x. one_if (x == k)) b (map (λ (c : ShadowData). c.id) xs),
    sum_by-cons (λ x. one_if (x == k)) b (map (λ (c : ShadowData). c.id) (xs ++ ys)),
    ap (count_by (λ x. x == k)) (map_append (λ (c : ShadowData). c.id) xs ys),
    sum_by-append (λ x. one_if (x == k)) (map (λ (c : ShadowData). c.id) xs) (map (λ (c : ShadowData). c.id) ys),
  );
  classes = λ c. omega (arith, n.classes c, sum_by-append (λ (x : ShadowData). one_if (bytes_eq x.class c)) xs ys);
  few = let v = n.few in omega (arith, v, length-append xs ys);
}

-- each class id is in the list of class ids
pub own_count : (cs : List ShadowData) → All (λ (c : ShadowData). 1 ≤ count_by (λ x. x == c.id) (map (λ (y : ShadowData). y.id) cs)) cs
own_count [] = All-nil (λ (c : ShadowData). 1 ≤ count_by (λ x. x == c.id) [])
own_count (c ∷ cs) = All-cons (λ (y : ShadowData). 1 ≤ count_by (λ x. x == y.id) (map (λ (z : ShadowData). z.id) (c ∷ cs))) c cs
    (let one : one_if (c.id == c.id) ≡ 1 = ap one_if (itself c.id) in omega (arith, one, sum_by-cons (λ x. one_if (x == c.id)) c.id (map (λ (y : ShadowData). y.id) cs)))
    (All-weaker (λ (y : ShadowData). 1 ≤ count_by (λ x. x == y.id) (map (λ (z : ShadowData). z.id) cs)) (λ (y : ShadowData). 1 ≤ count_by (λ x. x == y.id) (map (λ (z : ShadowData). z.id) (c ∷ cs)))
    (λ y k. omega (arith, k, sum_by-cons (λ x. one_if (x == y.id)) c.id (map (λ (z : ShadowData). z.id) cs))) cs (own_count cs))
  where
    itself : (n : ℕ) → (n == n) ≡ true
    itself n = grind arith

-- CLASS IDS are read one after the other
module _ (s : SettingData) (u : List Row) (k : ℕ) (x : List ℕ) (b : ℕ) (lawful : (p : Pending) → IsPending s u p → IsLawfulDraft (built s u p)) (can : CanBegin s u k x) where
  class_ids_go : (ds cs : List ShadowData) (others : List (List ℕ)) → CanNumber u b (ds ++ cs)
      → Goes (between (at numbered (built s u (is_numbered k x b ds)))) (flat_map class_id_words cs) others (between (at numbered (built s u (is_numbered k x b (ds ++ cs)))))
  class_ids_go ds [] others n = ap (λ (es : List ShadowData). between (at numbered (built s u (is_numbered k x b es)))) (sym (append-nil ds))
  class_ids_go ds (c ∷ cs) others n =
      let whole : (ds ++ c ∷ []) ++ cs ≡ ds ++ (c ∷ cs) = append_assoc ds (c ∷ []) cs in
      let all = subst (CanNumber u b) (sym whole) n in
      let form = All-head IsShadowId c cs (right ds (c ∷ cs) n.form) in
      goes_both (between (at numbered (built s u (is_numbered k x b ds)))) (class_id_words c) (flat_map class_id_words cs) others
      (between (at numbered (built s u (is_numbered k x b (ds ++ c ∷ []))))) (between (at numbered (built s u (is_numbered k x b (ds ++ (c ∷ cs))))))
      (class_id_goes (built s u (is_numbered k x b ds)) c.id c.class (flat_map class_id_words cs ++ others) (let v = form.most in omega (arith, v)) (lawful (is_numbered k x b (ds ++ c ∷ [])) (can, front_number u b (ds ++ c ∷ []) cs all)))
      (subst (λ (es : List ShadowData). Goes (between (at numbered (built s u (is_numbered k x b (ds ++ c ∷ []))))) (flat_map class_id_words cs) others (between (at numbered (built s u (is_numbered k x b es)))))
      whole (class_ids_go (ds ++ c ∷ []) cs others all))
    where
      right : (xs ys : List ShadowData) → All IsShadowId (xs ++ ys) → All IsShadowId ys
      right [] ys a = a
      right (y ∷ xs) ys a = right xs ys (All-tail IsShadowId y (xs ++ ys) a)

-- A BUCKET'S FIRST LINES are read
module _ (s : SettingData) (names : ℕ → List ℕ) (t : List Row) (l : Lawful t) (h : HasKinds s names t) (b : ℕ) (x : Row) (found : row_of t (Bucket b) ≡ Some x)
    (seen : ℕ → Bool) (q P : ItemId → Bool) (u : List Row) (r : IsRead t seen seen q P (whole_kids t seen) u) (new : seen b ≡ false) where
  form : IsBucketRow b x
  form = bucket_form t l b x found

  opened_read : IsRead t seen (add seen b) (with_one q (Bucket b)) P (open_kids t seen b []) (u ++ bare x ∷ [])
  opened_read = read_opened t l b x found seen q P u r new

  opened_lawful : Lawful (u ++ bare x ∷ [])
  opened_lawful = read_lawful t l seen (add seen b) (with_one q (Bucket b)) P (open_kids t seen b []) (u ++ bare x ∷ []) opened_read

  can_begin : CanBegin s u x.kind x.name
  can_begin =
      let row = All-row IsRow t l.rows (Bucket b) x found in
      let f = form in
      let all = opened_lawful in
      let one : one_if (is_bucket (bare x)) ≡ 1 = ap (λ (i : ItemId). one_if (not (is_device_id i))) (row_id (Bucket b) t x found) in
      record {
        known = kind_known s names t l h b x found;
        most = f.kind_most;
        form = row.name;
        free = name_free t l q P (read_closed t l seen seen q P (whole_kids t seen) u r) u r.rows (Bucket b) x (read_more t l seen seen q P (whole_kids t seen) u r (Bucket b))
            (fresh t l b x found seen q P u r new) (unplaced t l b x found seen q P u r new) found;
        few = omega (arith, all.buckets, one, sum_by-append (λ (y : Row). one_if (is_bucket y)) u (bare x ∷ []), sum_by-cons (λ (y : Row). one_if (is_bucket y)) (bare x) []);
      }

  own_uses : uses x ≡ own_ids b x.class_ids
  own_uses = ap (λ (i : ItemId). bucket_ids i ++ map (λ (c : ShadowData). c.id) x.class_ids) (row_id (Bucket b) t x found)

  own_free : (k : ℕ) → 1 ≤ count_by (λ y. y == k) (own_ids b x.class_ids) → member k (used_ids u) ≡ false
  own_free k some =
      id_free t l q P (read_closed t l seen seen q P (whole_kids t seen) u r) u r.rows (Bucket b) x k (read_more t l seen seen q P (whole_kids t seen) u r (Bucket b))
      (fresh t l b x found seen q P u r new) (unplaced t l b x found seen q P u r new) found (subst (λ (ks : List ℕ). 1 ≤ count_by (λ y. y == k) ks) (sym own_uses) some)

  can_number : CanNumber u b x.class_ids
  can_number =
      let f = form in
      let all = opened_lawful in
      record {
        some = f.some;
        most = f.most;
        free = own_free b (let one : one_if (b == b) ≡ 1 = ap one_if (itself b) in omega (arith, one, sum_by-cons (λ y. one_if (y == b)) b (map (λ (c : ShadowData). c.id) x.class_ids)));
        form = f.class_ids;
        fresh = All-weaker (λ (c : ShadowData). 1 ≤ count_by (λ y. y == c.id) (map (λ (z : ShadowData). z.id) x.class_ids)) (λ (c : ShadowData). member c.id (used_ids u) ≡ false)
            (λ c k. own_free c.id (omega (arith, k, sum_by-cons (λ y. one_if (y == c.id)) b (map (λ (z : ShadowData). z.id) x.class_ids)))) x.class_ids (own_count x.class_ids);
        apart = λ k. omega (arith, all.used k, times_used-push k u (bare x), ap (count_by (λ y. y == k)) own_uses);
        classes = f.classes;
        few = f.few;
      }
    where
      itself : (n : ℕ) → (n == n) ≡ true
      itself n = grind arith

  lawful_with : (p : Pending) → IsPending s u p → IsLawfulDraft (built s u p)
  lawful_with p k = read_draft s names t l h seen seen q P (whole_kids t seen) u r p k

  -- the words of the bucket's type, name and id are read
  head_leads : (late : Bool) (others : List (List ℕ)) → Goes (between (at (idle late) (built s u nothing))) (head_words (names x.kind) x.name x.id) others (between (at numbered (built s u (is_numbered x.kind x.name b []))))
  head_leads late others =
      let f = form in
      let is : kind_of_word (built s u nothing) (names x.kind) ≡ x.kind = ap (λ o. unwrap_or o 0) (h.kinds b x found) in
      let some : 0 < kind_of_word (built s u nothing) (names x.kind) = let v = f.kind_some in omega (arith, is, v) in
      let fits = h.setting in
      let named = type_named s.kinds (names x.kind) fits.kinds some in
      let can = can_number in
      subst (λ (i : ItemId). Goes (between (at (idle late) (built s u nothing))) (head_words (names x.kind) x.name i) others (between (at numbered (built s u (is_numbered x.kind x.name b []))))) (sym (row_id (Bucket b) t x found))
      (head_goes late (built s u nothing) x.kind (names x.kind) x.name b others some (opens (built s u nothing) (names x.kind) x.kind named.free is) (let v = f.most in omega (arith, v))
      (lawful_with (begun x.kind x.name) can_begin) (lawful_with (is_numbered x.kind x.name b []) (can_begin, front_number u b [] x.class_ids can)))

  -- the word of the bucket's algorithm is read. After this line the table has the bucket's row
  root_there : row_of (u ++ bare x ∷ []) (Bucket b) ≡ Some (bare x)
  root_there = read_row t l seen (add seen b) (with_one q (Bucket b)) P (open_kids t seen b []) (u ++ bare x ∷ []) opened_read (Bucket b) x found (with_one-it q (Bucket b)) (unplaced t l b x found seen q P u r new)

  open_lawful : IsLawfulDraft (built s (u ++ bare x ∷ []) (is_filling b))
  open_lawful = read_draft s names t l h seen (add seen b) (with_one q (Bucket b)) P (open_kids t seen b []) (u ++ bare x ∷ []) opened_read (is_filling b)
      (record { there = ap is_some root_there; root = ap (option_and_then (λ (y : Row). y.parent)) root_there })

  with_alg-is : (a : Alg) → x.alg ≡ Some a → with_alg (built s u (is_numbered x.kind x.name b x.class_ids)) a ≡ built s (u ++ bare x ∷ []) (is_filling b)
  with_alg-is a e =
      let f = form in
      let id : Bucket b ≡ x.id = sym (row_id (Bucket b) t x found) in
      let row : bucket_row None (record { id = b; kind = x.kind; name = x.name; alg = a; class_ids = x.class_ids }) ≡ bare x =
      λ k. record { id = id k; kind = x.kind; name = x.name; parent = None; weight = 0; class = sym f.class k; alg = sym e k; class_ids = x.class_ids } in
      λ k. built s (u ++ row k ∷ []) (is_filling b)

  alg_leads : (others : List (List ℕ)) → Goes (between (at numbered (built s u (is_numbered x.kind x.name b x.class_ids)))) (choice_words x) others (between (at (filling false) (built s (u ++ bare x ∷ []) (is_filling b))))
  alg_leads others = by_alg x.alg refl
    where
      by_alg : (o : Option Alg) → x.alg ≡ o → Goes (between (at numbered (built s u (is_numbered x.kind x.name b x.class_ids)))) (choice_words x) others (between (at (filling false) (built s (u ++ bare x ∷ []) (is_filling b))))
      by_alg None e = let f = form in absurd (f.alg e)
      by_alg (Some a) e =
          let is = with_alg-is a e in
          subst (λ (o : Option Alg). Goes (between (at numbered (built s u (is_numbered x.kind x.name b x.class_ids)))) (codes "alg" ∷ option_map_or alg_text o [] ∷ codes "hash" ∷ codes "0" ∷ []) others (between (at (filling false) (built s (u ++ bare x ∷ []) (is_filling b))))) (sym e)
          (subst (λ (d : Draft). Goes (between (at numbered (built s u (is_numbered x.kind x.name b x.class_ids)))) (codes "alg" ∷ alg_text a ∷ codes "hash" ∷ codes "0" ∷ []) others (between (at (filling false) d))) is
          (alg_goes (built s u (is_numbered x.kind x.name b x.class_ids)) a others (subst IsLawfulDraft (sym is) open_lawful)))

  -- the first lines lead to the state in which the bucket is open and has no items
  pub front_leads : (late : Bool) (others : List (List ℕ))
      → Goes (between (at (idle late) (built s u nothing))) ((head_words (names x.kind) x.name x.id ++ flat_map class_id_words x.class_ids) ++ choice_words x) others (between (at (filling false) (built s (u ++ bare x ∷ []) (is_filling b))))
  front_leads late others =
      goes_both (between (at (idle late) (built s u nothing))) (head_words (names x.kind) x.name x.id ++ flat_map class_id_words x.class_ids) (choice_words x) others
      (between (at numbered (built s u (is_numbered x.kind x.name b x.class_ids)))) (between (at (filling false) (built s (u ++ bare x ∷ []) (is_filling b))))
      (goes_both (between (at (idle late) (built s u nothing))) (head_words (names x.kind) x.name x.id) (flat_map class_id_words x.class_ids) (choice_words x ++ others)
      (between (at numbered (built s u (is_numbered x.kind x.name b [])))) (between (at numbered (built s u (is_numbered x.kind x.name b x.class_ids))))
      (head_leads late (flat_map class_id_words x.class_ids ++ (choice_words x ++ others)))
      (class_ids_go s u x.kind x.name b lawful_with can_begin [] x.class_ids (choice_words x ++ others) can_number))
      (alg_leads others)
