-- The words of a whole printed map.
use Rattle.std.proofs.Common.{◌≡◌, ℕ, ◌<◌, ◌^◌, Bool, true, false, List, [], ◌∷◌, ◌++◌, Option, Some, None, refl, sym, ap, subst, append-nil, arith, eq-eqb}
use Rattle.std.proofs.lemmas.List.Elements.{All-nil, All-cons, All-head, All-tail, All-weaker}
use Rattle.std.specs.Prelude.{All, flat_map, map, codes, find, nat_le, ◌==◌, ◌||◌, is_some, unwrap_or, bytes_eq, if◌then◌else◌}
use Rattle.std.specs.List.{list_any}
use Rattle.std.specs.Option.{option_map, option_map_or}
use Rattle.crush_units.specs.Name.{IsName}
use Rattle.crush_units.specs.declared.id.ItemId.{ItemId}
use Rattle.crush_units.specs.declared.id.ItemId.TheVariants.{Device, Bucket}
use Rattle.crush_model.specs.Lawful.{Lawful, IsRow, IsRowOf}
use Rattle.crush_model.specs.Table.{Row, row_of, kids, sum_below, item_weight}
use Rattle.crush_model.proofs.Moved.{row_id}
use Rattle.crush_model.proofs.Renamed.{All-row}
use Rattle.crush_model.proofs.Tested.{bytes_equal}
use Rattle.crush_edits.specs.Setting.{KindData, StepData, take, choose, set, emit, RuleData, SettingData, bucket_taken}
use Rattle.crush_edits.specs.Fits.{Fits, IsSetting, IsTunable, IsKind, IsStep, IsRule, IsThere, HasKind}
use Rattle.crush_units.proofs.Printed.{Holds}
use Rattle.crush_print.specs.declared.weight_form.WeightForm.{WeightForm}
use Rattle.crush_print.specs.Lines.{tunable_line, device_line, kind_line}
use Rattle.crush_print.specs.RuleLines.{bucket_name, rule_lines}
use Rattle.crush_print.specs.MapText.{put_in, ascending, device_numbers, kind_numbers, of_row, kind_text, kids_lines, bucket_text, bucket_numbers, device_lines, root_texts, tunable_section, device_section, kind_section, bucket_section, rule_section, map_text}
use Rattle.crush_print.proofs.TakenNames.{named}
use Rattle.crush_print.proofs.PrintedWords.{Spells, spells_nothing, spells_both, spells_blank, spells_comment, spells_all, spells_each}
use Rattle.crush_print.proofs.PrintedLines.{tunable_words, device_words, kind_words, item_words, bucket_words, rule_words, words_of, kid_words, whole_words, NamesOfStep, tunable_spells, device_spells, kind_spells, item_spells, bucket_spells, rule_spells}

-- THE ORDER of the printed buckets: each after the buckets among its items
abbrev pub root_order : List Row → List ℕ
root_order t = bucket_numbers t

-- THE TYPE with a number
pub record KindOf (s : SettingData) (n : ℕ) : Type 0 where
  pub kind : KindData
  pub found : find (λ (k : KindData). k.number == n) s.kinds ≡ Some kind
  pub form : IsKind kind
  pub number : kind.number ≡ n

kind_found : (ks : List KindData) (n : ℕ) → All IsKind ks → list_any (λ (k : KindData). k.number == n) ks ≡ true → (x : KindData) × (find (λ (k : KindData). k.number == n) ks ≡ Some x) × IsKind x × ((x.number == n) ≡ true)
kind_found [] n a h = absurd (let no : false ≡ true = h in cc)
kind_found (k ∷ ks) n a h = by_test (k.number == n) refl h (λ r. kind_found ks n (All-tail IsKind k ks a) r)
  where
    by_test : (b : Bool) → (k.number == n) ≡ b → (b || list_any (λ (y : KindData). y.number == n) ks) ≡ true
        → (list_any (λ (y : KindData). y.number == n) ks ≡ true → (x : KindData) × (find (λ (y : KindData). y.number == n) ks ≡ Some x) × IsKind x × ((x.number == n) ≡ true))
        → (x : KindData) × ((if b then Some k else find (λ (y : KindData). y.number == n) ks) ≡ Some x) × IsKind x × ((x.number == n) ≡ true)
    by_test true e r rest = (k, refl, All-head IsKind k ks a, e)
    by_test false e r rest = rest r

pub kind_of_number : (s : SettingData) (n : ℕ) → IsSetting s → list_any (λ (k : KindData). k.number == n) s.kinds ≡ true → KindOf s n
kind_of_number s n f h = let k = kind_found s.kinds n f.kinds h in record { kind = k.0; found = k.1; form = k.2; number = grind (arith, k.3) }

pub kind_text-is : (s : SettingData) (n : ℕ) (k : KindOf s n) → kind_text s n ≡ k.kind.name
unfolding kind_text
kind_text-is s n k = ap (λ (o : Option KindData). unwrap_or (option_map (λ (x : KindData). x.name) o) []) k.found

pub kind_text-name : (s : SettingData) (n : ℕ) → KindOf s n → IsName (kind_text s n)
kind_text-name s n k = subst IsName (sym (kind_text-is s n k)) k.form.name

-- each number in the list of type numbers is the number of a type
or_right : (a b : Bool) → b ≡ true → (a || b) ≡ true
or_right true b h = refl
or_right false b h = h

pub own_numbers : (ks : List KindData) → All (λ n. list_any (λ (k : KindData). k.number == n) ks ≡ true) (map (λ (k : KindData). k.number) ks)
own_numbers [] = All-nil (λ n. list_any (λ (k : KindData). k.number == n) [] ≡ true)
own_numbers (k ∷ ks) = All-cons (λ n. list_any (λ (x : KindData). x.number == n) (k ∷ ks) ≡ true) k.number (map (λ (x : KindData). x.number) ks)
    (ap (λ b. b || list_any (λ (x : KindData). x.number == k.number) ks) (eq-eqb k.number k.number refl))
    (All-weaker (λ n. list_any (λ (x : KindData). x.number == n) ks ≡ true) (λ n. list_any (λ (x : KindData). x.number == n) (k ∷ ks) ≡ true) (λ n h. or_right (k.number == n) _ h) (map (λ (x : KindData). x.number) ks) (own_numbers ks))

All-put_in : (P : ℕ → Type 0) (n : ℕ) (xs : List ℕ) → P n → All P xs → All P (put_in n xs)
All-put_in P n [] h a = All-cons P n [] h a
All-put_in P n (x ∷ xs) h a = by_test (nat_le n x) (All-put_in P n xs h (All-tail P x xs a))
  where
    by_test : (b : Bool) → All P (put_in n xs) → All P (if b then n ∷ (x ∷ xs) else x ∷ put_in n xs)
    by_test true r = All-cons P n (x ∷ xs) h a
    by_test false r = All-cons P x (put_in n xs) (All-head P x xs a) r

pub All-ascending : (P : ℕ → Type 0) (xs : List ℕ) → All P xs → All P (ascending xs)
All-ascending P [] a = a
All-ascending P (x ∷ xs) a = All-put_in P x (ascending xs) (All-head P x xs a) (All-ascending P xs (All-tail P x xs a))

pub known_numbers : (s : SettingData) → All (λ n. list_any (λ (k : KindData). k.number == n) s.kinds ≡ true) (kind_numbers s)
unfolding kind_numbers
known_numbers s = All-ascending (λ n. list_any (λ (k : KindData). k.number == n) s.kinds ≡ true) (map (λ (k : KindData). k.number) s.kinds) (own_numbers s.kinds)

-- the type with a name
name_found : (ks : List KindData) (n : List ℕ) → All IsKind ks → is_some (option_map (λ (k : KindData). k.number) (find (λ (k : KindData). bytes_eq k.name n) ks)) ≡ true → IsName n
name_found [] n a h = absurd (let no : false ≡ true = h in cc)
name_found (k ∷ ks) n a h = by_test (bytes_eq k.name n) refl h (λ r. name_found ks n (All-tail IsKind k ks a) r)
  where
    by_test : (b : Bool) → bytes_eq k.name n ≡ b → is_some (option_map (λ (y : KindData). y.number) (if b then Some k else find (λ (y : KindData). bytes_eq y.name n) ks)) ≡ true
        → (is_some (option_map (λ (y : KindData). y.number) (find (λ (y : KindData). bytes_eq y.name n) ks)) ≡ true → IsName n) → IsName n
    by_test true e r rest = let form = All-head IsKind k ks a in subst IsName (bytes_equal k.name n e) form.name
    by_test false e r rest = rest r

-- what is true of all elements of two joined lists is true of the elements of each list
pub All-left : {X : Type 0} (P : X → Type 0) (xs ys : List X) → All P (xs ++ ys) → All P xs
All-left P [] ys h = All-nil P
All-left P (x ∷ xs) ys h = All-cons P x xs (All-head P x (xs ++ ys) h) (All-left P xs ys (All-tail P x (xs ++ ys) h))

pub All-right : {X : Type 0} (P : X → Type 0) (xs ys : List X) → All P (xs ++ ys) → All P ys
All-right P [] ys h = h
All-right P (x ∷ xs) ys h = All-right P xs ys (All-tail P x (xs ++ ys) h)

module _ (s : SettingData) (t : List Row) (l : Lawful t) (f : Fits s t) where
  -- the name of a bucket that a rule's step takes
  taken_name : (b : ℕ) → IsThere t b → IsName (bucket_name t b)
  taken_name b h = let n = named t b h in let row = All-row IsRow t l.rows (Bucket b) n.0 n.1 in subst IsName (sym n.2) row.name

  step_names : (x : StepData) → IsStep s x → All (IsThere t) (bucket_taken x) → NamesOfStep t x
  step_names (take b class) h a = (taken_name b (All-head (IsThere t) b [] a), h)
  step_names (choose leaf firstn count kind) h a = (h.range, name_found s.kinds kind f.setting.kinds h.known)
  step_names (set name value) h a = (h.name, let v = h.range in omega (arith, v))
  step_names emit h a = tt

  steps_names : (xs : List StepData) → All (IsStep s) xs → All (IsThere t) (flat_map bucket_taken xs) → All (NamesOfStep t) xs
  steps_names [] h a = All-nil (NamesOfStep t)
  steps_names (x ∷ xs) h a = All-cons (NamesOfStep t) x xs (step_names x (All-head (IsStep s) x xs h) (All-left (IsThere t) (bucket_taken x) (flat_map bucket_taken xs) a))
      (steps_names xs (All-tail (IsStep s) x xs h) (All-right (IsThere t) (bucket_taken x) (flat_map bucket_taken xs) a))

  rules_spell : (rs : List RuleData) → All (IsRule s) rs → All (IsThere t) (flat_map (λ (r : RuleData). flat_map bucket_taken r.steps) rs) → Spells (flat_map (rule_lines t) rs) (flat_map (rule_words t) rs)
  rules_spell [] h a = spells_nothing
  rules_spell (r ∷ rs) h a = let rule = All-head (IsRule s) r rs h in
      spells_both _ _ _ _ (rule_spells s t r rule (steps_names r.steps rule.steps (All-left (IsThere t) (flat_map bucket_taken r.steps) _ a)))
      (rules_spell rs (All-tail (IsRule s) r rs h) (All-right (IsThere t) (flat_map bucket_taken r.steps) _ a))

  -- the words in the line of an item's row
  row_spells : (i : ItemId) (line : Row → List ℕ) (words : Row → List (List ℕ)) → ((r : Row) → row_of t i ≡ Some r → Spells (line r) (words r)) → Spells (of_row t i line) (words_of t i words)
  unfolding of_row
  row_spells i line words h = by_row (row_of t i) refl
    where
      by_row : (o : Option Row) → row_of t i ≡ o → Spells (option_map_or line o []) (option_map_or words o [])
      by_row None e = spells_nothing
      by_row (Some r) e = h r e

  found_form : (i : ItemId) (r : Row) → row_of t i ≡ Some r → IsRowOf i r
  found_form i r e = let row = All-row IsRow t l.rows i r e in subst (λ j. IsRowOf j r) (row_id i t r e) row.form

  found_name : (i : ItemId) (r : Row) → row_of t i ≡ Some r → IsName r.name
  found_name i r e = let row = All-row IsRow t l.rows i r e in row.name

  weighs_little : (i : ItemId) (r : Row) → row_of t i ≡ Some r → item_weight t i r.weight < 2 ^ 32
  weighs_little (Device d) r e = let form = found_form (Device d) r e in let v = form.light in omega (arith, v)
  weighs_little (Bucket b) r e = let v = l.sums b in omega (arith, v)

  kids_spell : (form : WeightForm) (b : ℕ) → Spells (kids_lines form t b) (flat_map (kid_words form t) (kids t b))
  unfolding kids_lines
  kids_spell form b = spells_each _ (kid_words form t) (kids t b) (λ i. row_spells i _ (λ (r : Row). item_words form r.name (item_weight t i r.weight)) (λ r e. item_spells form r.name (item_weight t i r.weight) (found_name i r e) (weighs_little i r e)))

  pub row_kind : (b : ℕ) (r : Row) → row_of t (Bucket b) ≡ Some r → KindOf s r.kind
  row_kind b r e = let form = found_form (Bucket b) r e in kind_of_number s r.kind f.setting (All-row (HasKind s) t f.types (Bucket b) r e form.kind_some)

  whole_spells : (form : WeightForm) (b : ℕ) → Spells (bucket_text form s t b) (whole_words form s t b)
  unfolding bucket_text
  whole_spells form b = row_spells (Bucket b) _ (λ (r : Row). bucket_words (kind_text s r.kind) r (flat_map (kid_words form t) (kids t b)))
      (λ r e. let light = l.sums b in bucket_spells form (kind_text s r.kind) r b (sum_below t b) (kids_lines form t b) (flat_map (kid_words form t) (kids t b)) (row_id (Bucket b) t r e) (kind_text-name s r.kind (row_kind b r e)) (found_name (Bucket b) r e) (found_form (Bucket b) r e) (omega (arith, light)) (kids_spell form b))

  -- THE WORDS of each section of the map
  pub tunables_spell : Spells (tunable_section s) (flat_map tunable_words s.tunables)
  unfolding tunable_section
  tunables_spell = spells_comment (codes " begin crush map") _ _ refl (spells_all tunable_line tunable_words s.tunables (All-weaker IsTunable (λ k. Spells (tunable_line k) (tunable_words k)) tunable_spells s.tunables f.setting.tunables))

  pub devices_spell : Spells (device_section t) (flat_map (λ d. words_of t (Device d) device_words) (device_numbers t))
  unfolding device_section device_lines
  devices_spell = spells_blank 10 _ _ refl refl (spells_comment (codes " devices") _ _ refl (spells_each _ (λ d. words_of t (Device d) device_words) (device_numbers t)
      (λ d. row_spells (Device d) device_line device_words (λ r e. device_spells r d (row_id (Device d) t r e) (found_name (Device d) r e) (found_form (Device d) r e)))))

  pub kinds_spell : Spells (kind_section s) (flat_map (λ n. kind_words n (kind_text s n)) (kind_numbers s))
  unfolding kind_section
  kinds_spell = spells_blank 10 _ _ refl refl (spells_comment (codes " types") _ _ refl (spells_all (λ n. kind_line n (kind_text s n)) (λ n. kind_words n (kind_text s n)) (kind_numbers s)
      (All-weaker (λ n. list_any (λ (k : KindData). k.number == n) s.kinds ≡ true) (λ n. Spells (kind_line n (kind_text s n)) (kind_words n (kind_text s n))) (λ n h. by_kind n (kind_of_number s n f.setting h)) (kind_numbers s) (known_numbers s))))
    where
      by_kind : (n : ℕ) → KindOf s n → Spells (kind_line n (kind_text s n)) (kind_words n (kind_text s n))
      by_kind n k = let v = k.form.number in let e = k.number in kind_spells n (kind_text s n) (omega (arith, v, e)) (kind_text-name s n k)

  pub buckets_spell : (form : WeightForm) → Spells (bucket_section form s t) (flat_map (whole_words form s t) (root_order t))
  unfolding bucket_section root_texts
  buckets_spell form = spells_blank 10 _ _ refl refl (spells_comment (codes " buckets") _ _ refl (spells_each (bucket_text form s t) (whole_words form s t) (root_order t) (whole_spells form)))

  pub rules_section_spell : Spells (rule_section s t) (flat_map (rule_words t) s.rules)
  unfolding rule_section
  rules_section_spell = spells_blank 10 _ _ refl refl (spells_comment (codes " rules") _ _ refl (rules_spell s.rules f.setting.rules f.taken))

-- the words of the tunables, devices, types, buckets and rules, one after the other
abbrev pub map_words : WeightForm → SettingData → List Row → List (List ℕ)
map_words form s t =
    flat_map tunable_words s.tunables ++ flat_map (λ d. words_of t (Device d) device_words) (device_numbers t) ++ flat_map (λ n. kind_words n (kind_text s n)) (kind_numbers s)
    ++ flat_map (whole_words form s t) (root_order t) ++ flat_map (rule_words t) s.rules

end_spells : Spells (codes "\n# end crush map\n") []
end_spells = spells_blank 10 _ _ refl refl (spells_comment (codes " end crush map") [] [] refl spells_nothing)

-- the printed text of a map has these words, whatever text follows it
pub map_text-spells : (form : WeightForm) (s : SettingData) (t : List Row) → Lawful t → Fits s t → Spells (map_text form s t) (map_words form s t)
unfolding map_text
map_text-spells form s t l f =
    let all = spells_both _ _ _ _ (spells_both _ _ _ _ (spells_both _ _ _ _ (spells_both _ _ _ _ (spells_both _ _ _ _ (tunables_spell s t l f) (devices_spell s t l f)) (kinds_spell s t l f)) (buckets_spell s t l f form)) (rules_section_spell s t l f)) end_spells in
    subst (λ ws. Spells (map_text form s t) ws) (append-nil _) all

-- and the text after it may be lines that have no words
pub map_text-holds : (form : WeightForm) (s : SettingData) (t : List Row) → Lawful t → Fits s t → (rest : List ℕ) → Holds rest [] → Holds (map_text form s t ++ rest) (map_words form s t)
map_text-holds form s t l f rest h =
    let all = map_text-spells form s t l f in
    subst (λ ws. Holds (map_text form s t ++ rest) ws) (append-nil _) (all.before rest [] h)
