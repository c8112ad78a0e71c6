-- Proves that the printed text of a map is the text of that map.
use Rattle.std.proofs.Common.{◌≡◌, ℕ, Bool, true, false, List, [], ◌∷◌, ◌++◌, Option, Some, None, refl, sym, ap, subst, ◌∙◌, arith}
use Rattle.std.proofs.lemmas.List.{append-nil}
use Rattle.std.proofs.lemmas.List.Elements.{All-head, All-tail}
use Rattle.std.specs.Prelude.{All, flat_map, find, codes, bytes_eq, ◌==◌, if◌then◌else◌}
use Rattle.std.specs.Option.{option_map, option_map_or}
use Rattle.crush_units.specs.declared.id.ItemId.TheVariants.{Device, Bucket}
use Rattle.crush_model.specs.Lawful.{Lawful, IsRow, IsRowOf, IsBucketRow}
use Rattle.crush_model.specs.Table.{Row, row_of, kids}
use Rattle.crush_model.proofs.Moved.{row_id}
use Rattle.crush_model.proofs.Renamed.{All-row}
use Rattle.crush_model.proofs.Same.{Same-sym}
use Rattle.crush_model.proofs.Tested.{bytes_equal, bytes_itself}
use Rattle.crush_edits.specs.Setting.{KindData, SettingData, kind_number}
use Rattle.crush_edits.specs.Fits.{Fits, is_reserved}
use Rattle.crush_builder.specs.Built.{Draft}
use Rattle.crush_units.specs.Words.{words}
use Rattle.crush_units.proofs.Printed.{Holds, holds_nothing}
use Rattle.crush_print.specs.declared.weight_form.WeightForm.{WeightForm}
use Rattle.crush_print.specs.MapText.{device_numbers, kind_numbers, kind_text, map_text}
use Rattle.crush_print.proofs.PrintedLines.{tunable_words, device_words, kind_words, bucket_words, kid_words, rule_words, words_of, whole_words}
use Rattle.crush_print.proofs.PrintedTexts.{row_kind, kind_text-is, map_words, map_text-holds, root_order}
use Rattle.crush_text.specs.Form.{first, at}
use Rattle.crush_text.specs.Flow.{State, between, takes_statement}
use Rattle.crush_text.specs.Document.{IsMap, start}
use Rattle.crush_laws.specs.Admitted.{IsLawfulText}
use Rattle.crush_laws.specs.ReadingBack.{in_order, IsTextOf, TypesAreReadInOrder, AreCommentLines}
use Rattle.crush_laws.proofs.Comments.{comment_lines-hold}
use Rattle.crush_laws.proofs.Keeps.{nothing_there}
use Rattle.crush_laws.proofs.LawfulTexts.{maps_are_the_lawful_texts}
use Rattle.crush_laws.proofs.BuiltLines.{Goes, goes_both, goes_build, idle}
use Rattle.crush_laws.proofs.BuiltEach.{quiet, Avoids, avoids_both, avoids_all, new_at, All-split, tuned, tunables_go}
use Rattle.crush_laws.proofs.BuiltDevices.{seen_rows, devices_go, seen_nothing, devices_same}
use Rattle.crush_laws.proofs.BuiltKinds.{found_at, ordered_number, kinded, kinds_go}
use Rattle.crush_laws.proofs.BuiltBuckets.{BucketsAreDue, BucketsLead, BucketsAreBuilt}
use Rattle.crush_laws.proofs.BuiltWholeRules.{rules_go, behind}

-- what holds for all elements holds for the element that a search finds
found_has : {X : Type 0} (P : X → Type 0) (p : X → Bool) (xs : List X) (x : X) → All P xs → find p xs ≡ Some x → P x
found_has P p [] x a e = absurd (let none : ◌≡◌ {A = Option _} None (Some x) = e in cc)
found_has P p (y ∷ xs) x a e = by_test (p y) e (found_has P p xs x (All-tail P y xs a))
  where
    by_test : (b : Bool) → (if b then Some y else find p xs) ≡ Some x → (find p xs ≡ Some x → P x) → P x
    by_test true h rest = let is : y ≡ x = cc in subst P is (All-head P y xs a)
    by_test false h rest = rest h

module _ (form : WeightForm) (s : SettingData) (t : List Row) (l : Lawful t) (f : Fits s t) where
  -- a type is found again by its printed name
  own_name : (front : List KindData) (k : KindData) (rest : List KindData) → front ++ k ∷ rest ≡ s.kinds → kind_number s k.name ≡ Some k.number
  own_name front k rest e =
      let setting = f.setting in
      let new = new_at (λ (x : KindData). bytes_eq x.name k.name) front k rest s.kinds e (setting.names k.name) (bytes_itself k.name) in
      ap (option_map (λ (x : KindData). x.number)) (ap (find (λ (x : KindData). bytes_eq x.name k.name)) (sym e) ∙ found_at (λ (x : KindData). bytes_eq x.name k.name) front k rest new (bytes_itself k.name))

  named_number : (b : ℕ) (r : Row) → row_of t (Bucket b) ≡ Some r → kind_number (in_order s) (kind_text s r.kind) ≡ Some r.kind
  named_number b r e =
      let k = row_kind s t l f b r e in
      let own = found_has (λ (x : KindData). kind_number s x.name ≡ Some x.number) (λ (x : KindData). x.number == r.kind) s.kinds k.kind (All-split (λ (x : KindData). kind_number s x.name ≡ Some x.number) s.kinds own_name [] s.kinds refl) k.found in
      let setting = f.setting in
      let number = k.number in
      ordered_number s setting (kind_text s r.kind) ∙ ap (kind_number s) (kind_text-is s r.kind k) ∙ own ∙ ap (λ (n : ℕ). Some n) number

  -- no line of a type, a bucket or a rule begins with `class`
  free_name : (n : List ℕ) → is_reserved n ≡ false → bytes_eq n (codes "class") ≡ false
  free_name n h = by_test (bytes_eq n (codes "class")) refl
    where
      by_test : (b : Bool) → bytes_eq n (codes "class") ≡ b → b ≡ false
      by_test false e = refl
      by_test true e = ap is_reserved (sym (bytes_equal n (codes "class") e)) ∙ h

  bucket_avoids : (b : ℕ) → Avoids (codes "class") (whole_words form s t b)
  bucket_avoids b = by_row (row_of t (Bucket b)) refl
    where
      by_row : (o : Option Row) → row_of t (Bucket b) ≡ o → Avoids (codes "class") (option_map_or (λ (r : Row). bucket_words (kind_text s r.kind) r (flat_map (kid_words form t) (kids t b))) o [])
      by_row None e = refl
      by_row (Some r) e =
          let k = row_kind s t l f b r e in
          let kind = k.form in
          let number = k.number in
          let row = All-row IsRow t l.rows (Bucket b) r e in
          let is : IsBucketRow b r = subst (λ i. IsRowOf i r) (row_id (Bucket b) t r e) row.form in
          let some = is.kind_some in
          ap (λ n. bytes_eq n (codes "class")) (kind_text-is s r.kind k) ∙ free_name k.kind.name (kind.free (omega (arith, number, some)))

  -- AFTER THE BUCKETS come the words of the rules
  abbrev rules_behind : List (List ℕ)
  rules_behind = flat_map (rule_words t) s.rules ++ []

  abbrev buckets_behind : List (List ℕ)
  buckets_behind = flat_map (whole_words form s t) (root_order t) ++ rules_behind

  abbrev kinds_behind : List (List ℕ)
  kinds_behind = flat_map (λ n. kind_words n (kind_text s n)) (kind_numbers s) ++ buckets_behind

  abbrev devices_behind : List (List ℕ)
  devices_behind = flat_map (λ d. words_of t (Device d) device_words) (device_numbers t) ++ kinds_behind

  kinds_free : Avoids (codes "class") kinds_behind
  kinds_free =
      avoids_both (codes "class") (flat_map (λ n. kind_words n (kind_text s n)) (kind_numbers s)) buckets_behind (avoids_all (codes "class") (λ n. kind_words n (kind_text s n)) (kind_numbers s) (λ n. refl))
      (avoids_both (codes "class") (flat_map (whole_words form s t) (root_order t)) rules_behind (avoids_all (codes "class") (whole_words form s t) (root_order t) bucket_avoids)
      (avoids_both (codes "class") (flat_map (rule_words t) s.rules) [] (avoids_all (codes "class") (rule_words t) s.rules (λ r. refl)) refl))

  -- BEFORE THE BUCKETS come the words of tunables, devices and types
  abbrev due : Draft
  due = quiet (kinded s.tunables (in_order s).kinds) (seen_rows t (device_numbers t))

  record Before : Type 0 where
    pub goes : Goes start (flat_map tunable_words s.tunables ++ flat_map (λ d. words_of t (Device d) device_words) (device_numbers t) ++ flat_map (λ n. kind_words n (kind_text s n)) (kind_numbers s)) buckets_behind (between (at first due))
    pub ready : BucketsAreDue s t due

  before : Before
  before =
      let setting = f.setting in
      let tunables = flat_map tunable_words s.tunables in
      let devices = flat_map (λ d. words_of t (Device d) device_words) (device_numbers t) in
      let kinds = flat_map (λ n. kind_words n (kind_text s n)) (kind_numbers s) in
      let one = tunables_go s.tunables setting.tunables setting.tunable_names setting.few_tunables devices_behind nothing_there in
      let two = devices_go s.tunables t l kinds_behind kinds_free (seen_nothing s.tunables t l one.holds) in
      let three = kinds_go s (seen_rows t (device_numbers t)) buckets_behind setting two.holds.map in
      let tuned_at : State = between (at first (quiet (tuned s.tunables) [])) in
      let listed_at : State = between (at first (quiet (tuned s.tunables) (seen_rows t (device_numbers t)))) in
      let fits = three.holds.fits in
      record {
        goes = goes_both start (tunables ++ devices) kinds buckets_behind listed_at (between (at first due)) (goes_both start tunables devices kinds_behind tuned_at listed_at one.goes two.goes) three.goes;
        ready = record {
          setting = fits.setting;
          unruled = refl;
          kinds = named_number;
          pending = refl;
          adjusted = refl;
          table = devices_same s.tunables t l two.holds;
        };
      }

  -- the text may end after the last statement
  may_end : (b : Bool) → takes_statement (idle b) ≡ true
  may_end true = refl
  may_end false = refl

  -- THE WHOLE MAP is read back if its buckets are built, also if bytes without words follow its text
  read_as : (rest : List ℕ) → Holds rest [] → BucketsLead form s t false due rules_behind → IsTextOf (map_text form s t ++ rest) (in_order s) t
  read_as rest none b =
      let u = b.last.table in
      let is : b.last ≡ quiet (kinded s.tunables (in_order s).kinds) u = λ i. record { setting = b.setting i; table = u; pending = b.pending i; adjusted = b.adjusted i } in
      let map : IsMap (quiet (kinded s.tunables (in_order s).kinds) u) = subst IsMap is b.lawful.map in
      let lawful = map.lawful in
      let rules = rules_go s t u l f lawful b.table b.behind [] map in
      let all = before.goes in
      let holds = map_text-holds form s t l f rest none in
      let unruled_at : State = between (at (idle b.behind) (quiet (kinded s.tunables (in_order s).kinds) u)) in
      let due_at : State = between (at first due) in
      let last_at : State = between (at (idle (behind b.behind s.rules)) (quiet (in_order s) u)) in
      let front = flat_map tunable_words s.tunables ++ flat_map (λ d. words_of t (Device d) device_words) (device_numbers t) ++ flat_map (λ n. kind_words n (kind_text s n)) (kind_numbers s) in
      let buckets = flat_map (whole_words form s t) (root_order t) in
      let filled : Goes due_at buckets rules_behind unruled_at = subst (λ d. Goes due_at buckets rules_behind (between (at (idle b.behind) d))) is b.goes in
      let goes : Goes start (map_words form s t) [] last_at =
      goes_both start (front ++ buckets) (flat_map (rule_words t) s.rules) [] unruled_at last_at (goes_both start front buckets rules_behind due_at unruled_at all filled) rules.goes in
      let built = goes_build start (map_words form s t) (words 0 (map_text form s t ++ rest)).words last_at (quiet (in_order s) u) (holds.texts_are 0) goes (refl, may_end (behind b.behind s.rules)) in
      let text : IsLawfulText (map_text form s t ++ rest) (in_order s) u 0 = record { draft = quiet (in_order s) u; built = built; end = holds.ends 0; setting = refl; table = refl; count = refl } in
      record { table = u; text = (maps_are_the_lawful_texts (map_text form s t ++ rest) (in_order s) u 0).1 text; same = Same-sym t u b.table }

  pub map_read_back : BucketsAreBuilt → (rest : List ℕ) → Holds rest [] → IsTextOf (map_text form s t ++ rest) (in_order s) t
  map_read_back built rest none = read_as rest none (built form s t l false due rules_behind before.ready)

-- the printed text is read in the order of the types' numbers if its buckets are built
pub types_are_read_in_order : BucketsAreBuilt → TypesAreReadInOrder
types_are_read_in_order built form s t l f = subst (λ bytes. IsTextOf bytes (in_order s) t) (append-nil (map_text form s t)) (map_read_back form s t l f built [] holds_nothing)

-- the same holds if comment lines follow the printed text
pub comments_behind : BucketsAreBuilt → (form : WeightForm) (s : SettingData) (t : List Row) (comments : List ℕ) → Lawful t → Fits s t → AreCommentLines comments → IsTextOf (map_text form s t ++ comments) (in_order s) t
comments_behind built form s t comments l f are = map_read_back form s t l f built comments (comment_lines-hold comments are)
