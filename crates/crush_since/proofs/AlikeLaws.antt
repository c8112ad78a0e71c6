-- Proves that no difference remains between two maps if and only if they are alike by names.
use Rattle.std.proofs.Common.{◌≡◌, ℕ, ◌+◌, ◌≤◌, Bool, true, false, List, [], ◌∷◌, ◌++◌, map, refl, sym, ap, subst, ◌∙◌, arith, eq-eqb, ⊎_elim}
use Rattle.std.specs.Prelude.{find, IfSome, Option, None, Some, is_some, ◌&&◌, ◌==◌, if◌then◌else◌, bytes_eq, codes, option_and_then, unwrap_or}
use Rattle.std.specs.Cmp.Lexicographic.{pointwise}
use Rattle.std.specs.List.{list_all}
use Rattle.std.specs.Option.{option_map}
use Rattle.std.proofs.lemmas.Bool.Decides.{eqb_tells, nat_tests}
use Rattle.crush_units.specs.declared.id.ItemId.{ItemId}
use Rattle.crush_units.specs.declared.id.ItemId.TheVariants.{Device, Bucket}
use Rattle.crush_units.specs.Id.{same_id}
use Rattle.crush_units.specs.Name.{IsName, are_name_bytes}
use Rattle.crush_units.proofs.Ids.{same_id_refl}
use Rattle.crush_model.specs.Count.{one_if}
use Rattle.crush_model.specs.Lawful.{HasParent, IsRow, IsRowOf, Lawful}
use Rattle.crush_model.specs.Table.{Row, row_of, row_named, is_there, item_weight, name_of}
use Rattle.crush_model.proofs.Found.{Distinct, Distinct-tail, is_there-times, times-cons}
use Rattle.crush_model.proofs.NameColumn.{id_named-by}
use Rattle.crush_model.proofs.Renamed.{All-row}
use Rattle.crush_model.proofs.Tested.{bytes_equal, bytes_itself}
use Rattle.crush_edits.specs.Setting.{KindData, TunableData, SettingData, first_name, kind_name}
use Rattle.crush_compare.specs.Equal.{same_text}
use Rattle.crush_items.specs.ItemData.{ItemData, with_holder, row_item}
use Rattle.crush_compare.specs.NamedColumns.{same_type}
use Rattle.crush_compare.specs.SameItem.{same_algs}
use Rattle.crush_compare.specs.Weights.{are_near, same_weight}
use Rattle.crush_since.specs.ItemParts.{part}
use Rattle.crush_since.specs.ItemWords.{type_word}
use Rattle.crush_since.specs.Settings.{same_tunable, agree_on, same_kinds, kind_numbers}
use Rattle.crush_since.specs.Since.{PlainMap}
use Rattle.crush_since.proofs.SinceItself.{algs_itself, all_agree, pairs_itself, text_itself, tunable_itself}
use Rattle.crush_since.specs.Alike.{AreOne, place_of, AreAlike, HaveAlike, SettingsAgree, AreAlikeByNames, NothingStaysWhereAlike}
use Rattle.crush_compare.specs.declared.identity.Devices.{Devices}
use Rattle.crush_compare.specs.declared.identity.Devices.TheVariants.{ById}
use Rattle.crush_compare.specs.Named.{are_one, if_one, counterpart}
use Rattle.crush_since.specs.NamedRules.{named_rules_line}
use Rattle.crush_since.specs.Stays.{place_in, place_word, same_place, type_part, place_part, weight_part, class_part, alg_part, differing, wanted_parts, stay_line, named_setting_lines, stays}
use Rattle.crush_since.proofs.NamedPairs.{unwanted_parts, wanted_line, unwanted_line, wanted_lines, unwanted_lines, stays_are}
use Rattle.crush_since.proofs.TreeLaws.{nil_left, nil_right, tree_none, rows_none, some_is, not_none}
use Rattle.crush_since.proofs.EqualItems.{algs_equal, part_is_none, text_equal}
use Rattle.crush_nodes.proofs.StoredLaws.{first_of, second_of}

-- NAMES: the row that is found by a name is the row that is found by the row's id
row_of_named : (t : List Row) (n : List ℕ) (r : Row) → Distinct t → row_named t n ≡ Some r → (r.name ≡ n) × (row_of t r.id ≡ Some r)
row_of_named [] n r d e = absurd cc
row_of_named (x ∷ t) n r d e = by_name (bytes_eq x.name n) refl e (λ rest. row_of_named t n r (Distinct-tail x t d) rest) where
  by_id : (b : Bool) → same_id x.id r.id ≡ b → row_of t r.id ≡ Some r → (if b then Some x else row_of t r.id) ≡ Some r
  by_id true q later = absurd (let one : one_if (same_id x.id r.id) ≡ 1 = ap one_if q in omega (arith, one, d r.id, times-cons r.id x t, is_there-times t r.id (ap is_some later)))
  by_id false q later = later

  by_name : (b : Bool) → bytes_eq x.name n ≡ b → (if b then Some x else row_named t n) ≡ Some r → (row_named t n ≡ Some r → (r.name ≡ n) × (row_of t r.id ≡ Some r)) → (r.name ≡ n) × (row_of (x ∷ t) r.id ≡ Some r)
  by_name true q found rest =
      let is : x ≡ r = some_is x r found in
      subst (λ (y : Row). (y.name ≡ n) × (row_of (x ∷ t) y.id ≡ Some y)) is (bytes_equal x.name n q, ap (λ b. if b then Some x else row_of t x.id) (same_id_refl x.id))
  by_name false q found rest = let later = rest found in (later.0, by_id (same_id x.id r.id) refl later.1)

pub row_named_own : (t : List Row) (i : ItemId) (r : Row) → Lawful t → row_of t i ≡ Some r → row_named t r.name ≡ Some r
row_named_own t i r l found = by_row (row_named t r.name) refl (id_named-by t i r.name l.names (ap (option_map (λ (x : Row). x.name)) found)) where
  by_row : (o : Option Row) → row_named t r.name ≡ o → option_map (λ (x : Row). x.id) o ≡ Some i → row_named t r.name ≡ Some r
  by_row None e h = absurd cc
  by_row (Some q) e h =
      let is : q.id ≡ i = some_is q.id i h in
      let own : row_of t i ≡ Some q = ap (row_of t) (sym is) ∙ (row_of_named t r.name q l.ids e).1 in
      e ∙ sym own ∙ found

-- an item's counterpart is the item of the row with the same name, if the two are the same item
pub counterpart_named : (by : Devices) (t : List Row) (x : ItemData) (q : Row) → Distinct t → row_named t x.view.name ≡ Some q → counterpart by t x ≡ (if are_one by x.view.id q.id then Some (row_item t q) else None)
unfolding counterpart
counterpart_named by t x q d e =
    ap (λ (o : Option Row). option_and_then (if_one by t x.view.id) (option_map (λ (r : Row). r.id) o)) e
    ∙ ap (λ (o : Option Row). if are_one by x.view.id q.id then option_map (row_item t) o else None) (row_of_named t x.view.name q d e).1

counterpart_unnamed : (t : List Row) (x : ItemData) → row_named t x.view.name ≡ None → counterpart ById t x ≡ None
unfolding counterpart
counterpart_unnamed t x e = ap (λ (o : Option Row). option_and_then (if_one ById t x.view.id) (option_map (λ (r : Row). r.id) o)) e

-- ONE ITEM: the test `are_one` is true if and only if `AreOne` holds
one_of_test : (i j : ItemId) → are_one ById i j ≡ true → AreOne i j
one_of_test (Device d) (Device e) h = ⊎_elim (λ q. q.1) (λ q. absurd (let no_way : true ≡ false = sym h ∙ q.0 in cc)) (eqb_tells d e)
one_of_test (Device d) (Bucket b) h = absurd cc
one_of_test (Bucket b) (Device d) h = absurd cc
one_of_test (Bucket b) (Bucket c) h = tt

test_of_one : (i j : ItemId) → AreOne i j → are_one ById i j ≡ true
test_of_one (Device d) (Device e) h = eq-eqb d e h
test_of_one (Device d) (Bucket b) h = absurd h
test_of_one (Bucket b) (Device d) h = absurd h
test_of_one (Bucket b) (Bucket c) h = refl

one_turned : (i j : ItemId) → AreOne i j → AreOne j i
one_turned (Device d) (Device e) h = sym h
one_turned (Device d) (Bucket b) h = absurd h
one_turned (Bucket b) (Device d) h = absurd h
one_turned (Bucket b) (Bucket c) h = tt

-- types: a device has the type 0 in both maps
type_of_test : (s p : SettingData) → ((n : ℕ) → kind_name s n ≡ kind_name p n) → (i j : ItemId) (x y : Row) → IsRowOf i x → IsRowOf j y → AreOne i j
    → same_type i (type_word s i x.kind) (type_word p j y.kind) ≡ true → type_word s i x.kind ≡ type_word p j y.kind
type_of_test s p kinds (Device d) (Device e) x y fx fy one same =
    (λ k. unwrap_or (kind_name s (fx.kind k)) (codes "osd")) ∙ (λ k. unwrap_or (kinds 0 k) (codes "osd")) ∙ (λ k. unwrap_or (kind_name p (sym fy.kind k)) (codes "osd"))
type_of_test s p kinds (Device d) (Bucket c) x y fx fy one same = absurd one
type_of_test s p kinds (Bucket b) (Device e) x y fx fy one same = absurd one
type_of_test s p kinds (Bucket b) (Bucket c) x y fx fy one same = bytes_equal _ _ same

pub test_of_type : (i : ItemId) (a b : List ℕ) → a ≡ b → same_type i a b ≡ true
test_of_type (Device d) a b e = refl
test_of_type (Bucket c) a b e = ap (bytes_eq a) (sym e) ∙ bytes_itself a

-- weights: the weights of a device are compared, and the weights of a bucket aren't
near : (a b : ℕ) → are_near a b ≡ true → (a ≤ b + 1) × (b ≤ a + 1)
near a b h = (grind (arith, nat_tests, h), grind (arith, nat_tests, h))

is_near : (a b : ℕ) → a ≤ b + 1 → b ≤ a + 1 → are_near a b ≡ true
is_near a b more less = grind (arith, nat_tests, more, less)

weight_of_test : (t u : List Row) (i j : ItemId) (x y : Row) → IsRowOf i x → IsRowOf j y → AreOne i j
    → same_weight i (item_weight t i x.weight) (item_weight u j y.weight) ≡ true → (x.weight ≤ y.weight + 1) × (y.weight ≤ x.weight + 1)
weight_of_test t u (Device d) (Device e) x y fx fy one same = near x.weight y.weight same
weight_of_test t u (Device d) (Bucket c) x y fx fy one same = absurd one
weight_of_test t u (Bucket b) (Device e) x y fx fy one same = absurd one
weight_of_test t u (Bucket b) (Bucket c) x y fx fy one same = (omega (arith, fx.weight), omega (arith, fy.weight))

test_of_weight : (t u : List Row) (i j : ItemId) (v w : ℕ) → AreOne i j → v ≤ w + 1 → w ≤ v + 1 → same_weight i (item_weight t i v) (item_weight u j w) ≡ true
test_of_weight t u (Device d) (Device e) v w one more less = is_near v w more less
test_of_weight t u (Device d) (Bucket c) v w one more less = absurd one
test_of_weight t u (Bucket b) (Device e) v w one more less = absurd one
test_of_weight t u (Bucket b) (Bucket c) v w one more less = refl

-- PLACES: a parent has a name, and no name is one of the words for an item without a parent
abbrev IsHeld : Option ℕ → Option (List ℕ) → Type 0
IsHeld None holder = holder ≡ None
IsHeld (Some p) holder = (n : List ℕ) × (holder ≡ Some n) × IsName n

held : (t : List Row) (l : Lawful t) (o : Option ℕ) → IfSome o (λ p. is_there t (Bucket p) ≡ true) → IsHeld o (option_and_then (λ p. name_of t (Bucket p)) o)
held t l None there = refl
held t l (Some p) there = by_row (row_of t (Bucket p)) refl there where
  by_row : (o : Option Row) → row_of t (Bucket p) ≡ o → is_some o ≡ true → (n : List ℕ) × (option_map (λ (r : Row). r.name) (row_of t (Bucket p)) ≡ Some n) × IsName n
  by_row None e h = absurd cc
  by_row (Some r) e h = (r.name, ap (option_map (λ (x : Row). x.name)) e, (All-row IsRow t l.rows (Bucket p) r e).name)

no_unplaced : (n : List ℕ) → IsName n → n ≡ codes "(unplaced)" → ⊥
no_unplaced n is e = let bad : are_name_bytes (codes "(unplaced)") ≡ true = ap are_name_bytes (sym e) ∙ is.allowed in let no_way : false ≡ true = bad in cc

no_root : (n : List ℕ) → IsName n → n ≡ codes "(root)" → ⊥
no_root n is e = let bad : are_name_bytes (codes "(root)") ≡ true = ap are_name_bytes (sym e) ∙ is.allowed in let no_way : false ≡ true = bad in cc

word_of_held : (i : ItemId) (p : ℕ) (holder : Option (List ℕ)) (n : List ℕ) → holder ≡ Some n → place_in i (Some p) holder ≡ n
word_of_held i p holder n e = ap (λ h. unwrap_or h []) e

no_place : (i : ItemId) (n : List ℕ) (holder : Option (List ℕ)) → IsName n → n ≡ place_in i None holder → ⊥
no_place (Device d) n holder is e = no_unplaced n is e
no_place (Bucket b) n holder is e = no_root n is e

place_of_words : (i j : ItemId) (p q : Option ℕ) (a b : Option (List ℕ)) → IsHeld p a → IsHeld q b → place_in i p a ≡ place_in j q b → a ≡ b
place_of_words i j None None a b ha hb e = ha ∙ sym hb
place_of_words i j None (Some q) a b ha hb e = absurd (no_place i hb.0 a hb.2 (sym (word_of_held j q b hb.0 hb.1) ∙ sym e))
place_of_words i j (Some p) None a b ha hb e = absurd (no_place j ha.0 b ha.2 (sym (word_of_held i p a ha.0 ha.1) ∙ e))
place_of_words i j (Some p) (Some q) a b ha hb e = ha.1 ∙ ap Some (sym (word_of_held i p a ha.0 ha.1) ∙ e ∙ word_of_held j q b hb.0 hb.1) ∙ sym hb.1

words_of_place : (i j : ItemId) (p q : Option ℕ) (a b : Option (List ℕ)) → AreOne i j → IsHeld p a → IsHeld q b → a ≡ b → place_in i p a ≡ place_in j q b
words_of_place (Device d) (Device e) None None a b one ha hb is = refl
words_of_place (Bucket d) (Bucket e) None None a b one ha hb is = refl
words_of_place (Device d) (Bucket e) p q a b one ha hb is = absurd one
words_of_place (Bucket d) (Device e) p q a b one ha hb is = absurd one
words_of_place i j None (Some q) a b one ha hb is = absurd (let no_way : None ≡ Some hb.0 = sym ha ∙ is ∙ hb.1 in cc)
words_of_place i j (Some p) None a b one ha hb is = absurd (let no_way : None ≡ Some ha.0 = sym hb ∙ sym is ∙ ha.1 in cc)
words_of_place i j (Some p) (Some q) a b one ha hb is = ap (λ h. unwrap_or h []) is

line_is_none : (name : List ℕ) (ps : List (List ℕ)) → stay_line name ps ≡ [] → ps ≡ []
line_is_none name [] h = refl
line_is_none name (p ∷ ps) h = absurd (not_none _ [] h)

pub part_none : (same : Bool) (text : List ℕ) → same ≡ true → part same text ≡ []
part_none same text e = ap (λ b. part b text) e

pub none_of_five : {X : Type 0} (a b c d e : List X) → a ≡ [] → b ≡ [] → c ≡ [] → d ≡ [] → e ≡ [] → a ++ b ++ c ++ d ++ e ≡ []
none_of_five a b c d e ha hb hc hd he = λ k. ha k ++ hb k ++ hc k ++ hd k ++ he k

-- SETTINGS: the tests of tunables, types and rules are true if and only if the settings agree
tunable_equal : (x y : TunableData) → same_tunable x y ≡ true → x ≡ y
tunable_equal x y h =
    let value : x.value ≡ y.value = ⊎_elim (λ q. q.1) (λ q. absurd (let no_way : true ≡ false = sym (second_of (bytes_eq x.name y.name) (x.value == y.value) h) ∙ q.0 in cc)) (eqb_tells x.value y.value) in
    λ k. record { name = bytes_equal x.name y.name (first_of (bytes_eq x.name y.name) (x.value == y.value) h) k; value = value k }

tunables_equal : (xs ys : List TunableData) → pointwise same_tunable xs ys ≡ true → xs ≡ ys
tunables_equal [] [] h = refl
tunables_equal [] (y ∷ ys) h = absurd cc
tunables_equal (x ∷ xs) [] h = absurd cc
tunables_equal (x ∷ xs) (y ∷ ys) h =
    λ k. tunable_equal x y (first_of (same_tunable x y) (pointwise same_tunable xs ys) h) k ∷ tunables_equal xs ys (second_of (same_tunable x y) (pointwise same_tunable xs ys) h) k

-- a type number that has a name is one of the numbers that the test visits
of_number : (test : ℕ → Bool) (ks : List KindData) (n : ℕ) (name : List ℕ) → list_all test (map (λ (k : KindData). k.number) ks) ≡ true → first_name ks n ≡ Some name → test n ≡ true
of_number test [] n name all e = absurd cc
of_number test (k ∷ ks) n name all e = ⊎_elim
    (λ q. ap test (sym q.1) ∙ first_of (test k.number) (list_all test (map (λ (x : KindData). x.number) ks)) all)
    (λ q. of_number test ks n name (second_of (test k.number) (list_all test (map (λ (x : KindData). x.number) ks)) all) (sym (ap (λ c. option_map (λ (x : KindData). x.name) (if c then Some k else find (λ (x : KindData). x.number == n) ks)) q.0) ∙ e))
    (eqb_tells k.number n)

kinds_agree : (s p : SettingData) → same_kinds s p ≡ true → (n : ℕ) → kind_name s n ≡ kind_name p n
kinds_agree s p h n = by_name (kind_name s n) (kind_name p n) refl refl where
  here : list_all (agree_on s p) (kind_numbers s) ≡ true
  here = first_of (list_all (agree_on s p) (kind_numbers s)) (list_all (agree_on s p) (kind_numbers p)) h

  there : list_all (agree_on s p) (kind_numbers p) ≡ true
  there = second_of (list_all (agree_on s p) (kind_numbers s)) (list_all (agree_on s p) (kind_numbers p)) h

  by_name : (a b : Option (List ℕ)) → kind_name s n ≡ a → kind_name p n ≡ b → kind_name s n ≡ kind_name p n
  by_name (Some m) b ea eb = text_equal (kind_name s n) (kind_name p n) (of_number (agree_on s p) s.kinds n m here ea)
  by_name None (Some m) ea eb = text_equal (kind_name s n) (kind_name p n) (of_number (agree_on s p) p.kinds n m there eb)
  by_name None None ea eb = ea ∙ sym eb

kinds_same : (s p : SettingData) → ((n : ℕ) → kind_name s n ≡ kind_name p n) → same_kinds s p ≡ true
kinds_same s p agree = λ k. all_agree (agree_on s p) each (kind_numbers s) k && all_agree (agree_on s p) each (kind_numbers p) k where
  each : (n : ℕ) → agree_on s p n ≡ true
  each n = ap (same_text (kind_name s n)) (sym (agree n)) ∙ text_itself (kind_name s n)

pub settings_none : (old new : PlainMap) → SettingsAgree old new → named_setting_lines old new ≡ []
unfolding named_setting_lines named_rules_line
settings_none old new agree =
    let tunables : pointwise same_tunable old.setting.tunables new.setting.tunables ≡ true = ap (pointwise same_tunable old.setting.tunables) (sym agree.tunables) ∙ pairs_itself same_tunable tunable_itself old.setting.tunables in
    λ k. part_none _ (codes "tunables differ") tunables k ++ part_none _ (codes "types differ") (kinds_same old.setting new.setting agree.kinds) k ++ part_none _ (codes "rules differ") agree.rules k

settings_agree : (old new : PlainMap) → named_setting_lines old new ≡ [] → SettingsAgree old new
unfolding named_setting_lines named_rules_line
settings_agree old new none =
    let tunables = part (pointwise same_tunable old.setting.tunables new.setting.tunables) (codes "tunables differ") in
    let kinds = part (same_kinds old.setting new.setting) (codes "types differ") in
    let front = nil_left (tunables ++ kinds) (named_rules_line old new) none in
    record {
      tunables = tunables_equal old.setting.tunables new.setting.tunables (part_is_none _ _ (nil_left tunables kinds front));
      kinds = kinds_agree old.setting new.setting (part_is_none _ _ (nil_right tunables kinds front));
      rules = part_is_none _ _ (nil_right (tunables ++ kinds) (named_rules_line old new) none);
    }

-- ITEMS that both maps have: they have no line if and only if their rows are alike
module _ (old new : PlainMap) (lt : Lawful old.table) (lu : Lawful new.table) where
  held_here : (q : Row) → row_of old.table q.id ≡ Some q → IsHeld q.parent (place_of old.table q)
  held_here q found = held old.table lt q.parent (All-row (HasParent old.table) old.table lt.parents q.id q found)

  held_there : (r : Row) → row_of new.table r.id ≡ Some r → IsHeld r.parent (place_of new.table r)
  held_there r found = held new.table lu r.parent (All-row (HasParent new.table) new.table lu.parents r.id r found)

  none_differing : (q r : Row) → row_of old.table q.id ≡ Some q → row_of new.table r.id ≡ Some r → AreAlike old new q r → differing old.setting new.setting (row_item old.table q) (row_item new.table r) ≡ []
  unfolding same_place place_word
  none_differing q r here there alike =
      let places = words_of_place q.id r.id q.parent r.parent (place_of old.table q) (place_of new.table r) alike.one (held_here q here) (held_there r there) alike.place in
      let x = row_item old.table q in
      let y = row_item new.table r in
      none_of_five (type_part old.setting new.setting x y) (place_part x y) (weight_part x y) (class_part x y) (alg_part x y)
      (part_none _ _ (test_of_type q.id (type_word old.setting q.id q.kind) (type_word new.setting r.id r.kind) alike.kind))
      (part_none _ _ (ap (bytes_eq (place_word x)) (sym places) ∙ bytes_itself (place_word x)))
      (part_none _ _ (test_of_weight old.table new.table q.id r.id q.weight r.weight alike.one alike.no_more alike.no_less))
      (part_none _ _ (ap (same_text q.class) (sym alike.class) ∙ text_itself q.class))
      (part_none _ _ (ap (same_algs q.alg) (sym alike.alg) ∙ algs_itself q.alg))

  are_alike : (q r : Row) → SettingsAgree old new → row_of old.table q.id ≡ Some q → row_of new.table r.id ≡ Some r → AreOne q.id r.id → differing old.setting new.setting (row_item old.table q) (row_item new.table r) ≡ [] → AreAlike old new q r
  unfolding same_place place_word
  are_alike q r agree here there one none =
      let x = row_item old.table q in
      let y = row_item new.table r in
      let fq = (All-row IsRow old.table lt.rows q.id q here).form in
      let fr = (All-row IsRow new.table lu.rows r.id r there).form in
      let to_class = nil_left (type_part old.setting new.setting x y ++ place_part x y ++ weight_part x y ++ class_part x y) (alg_part x y) none in
      let to_weight = nil_left (type_part old.setting new.setting x y ++ place_part x y ++ weight_part x y) (class_part x y) to_class in
      let to_place = nil_left (type_part old.setting new.setting x y ++ place_part x y) (weight_part x y) to_weight in
      let weight = weight_of_test old.table new.table q.id r.id q r fq fr one (part_is_none _ _ (nil_right (type_part old.setting new.setting x y ++ place_part x y) (weight_part x y) to_weight)) in
      record {
        one = one;
        kind = type_of_test old.setting new.setting agree.kinds q.id r.id q r fq fr one (part_is_none _ _ (nil_left (type_part old.setting new.setting x y) (place_part x y) to_place));
        place = place_of_words q.id r.id q.parent r.parent (place_of old.table q) (place_of new.table r) (held_here q here) (held_there r there) (bytes_equal _ _ (part_is_none _ _ (nil_right (type_part old.setting new.setting x y) (place_part x y) to_place)));
        no_more = weight.0;
        no_less = weight.1;
        class = text_equal q.class r.class (part_is_none _ _ (nil_right (type_part old.setting new.setting x y ++ place_part x y ++ weight_part x y) (class_part x y) to_class));
        alg = algs_equal q.alg r.alg (part_is_none _ _ (nil_right (type_part old.setting new.setting x y ++ place_part x y ++ weight_part x y ++ class_part x y) (alg_part x y) none));
      }

  -- THE LINE of a wanted item, given the map's row with the same name, if there is one
  abbrev wanted_of : Row → List (List ℕ)
  wanted_of r = wanted_parts old.setting new.setting (counterpart ById old.table (row_item new.table r)) (row_item new.table r)

  wanted_lacks : (r : Row) → row_named old.table r.name ≡ None → wanted_of r ≡ [] → ⊥
  wanted_lacks r e none = not_none _ [] (sym (ap (λ o. wanted_parts old.setting new.setting o (row_item new.table r)) (counterpart_unnamed old.table (row_item new.table r) e)) ∙ none)

  wanted_has : (q r : Row) → row_named old.table r.name ≡ Some q → wanted_of r ≡ [] → (are_one ById r.id q.id ≡ true) × (differing old.setting new.setting (row_item old.table q) (row_item new.table r) ≡ [])
  wanted_has q r e none = by_test (are_one ById r.id q.id) refl (sym (ap (λ o. wanted_parts old.setting new.setting o (row_item new.table r)) (counterpart_named ById old.table (row_item new.table r) q lt.ids e)) ∙ none) where
    by_test : (b : Bool) → are_one ById r.id q.id ≡ b → wanted_parts old.setting new.setting (if b then Some (row_item old.table q) else None) (row_item new.table r) ≡ [] → (are_one ById r.id q.id ≡ true) × (differing old.setting new.setting (row_item old.table q) (row_item new.table r) ≡ [])
    by_test true one h = (one, h)
    by_test false one h = absurd (not_none _ [] h)

  wanted_none : (q r : Row) → row_named old.table r.name ≡ Some q → are_one ById r.id q.id ≡ true → differing old.setting new.setting (row_item old.table q) (row_item new.table r) ≡ [] → wanted_of r ≡ []
  wanted_none q r e one none =
      ap (λ o. wanted_parts old.setting new.setting o (row_item new.table r)) (counterpart_named ById old.table (row_item new.table r) q lt.ids e ∙ ap (λ b. if b then Some (row_item old.table q) else None) one) ∙ none

  -- the line of the map's item, which the wanted map may not have
  unwanted_lacks : (q : Row) → row_named new.table q.name ≡ None → unwanted_parts (counterpart ById new.table (row_item old.table q)) ≡ [] → ⊥
  unwanted_lacks q e none = not_none _ [] (sym (ap unwanted_parts (counterpart_unnamed new.table (row_item old.table q) e)) ∙ none)

  unwanted_none : (q r : Row) → row_named new.table q.name ≡ Some r → are_one ById q.id r.id ≡ true → unwanted_parts (counterpart ById new.table (row_item old.table q)) ≡ []
  unwanted_none q r e one = ap unwanted_parts (counterpart_named ById new.table (row_item old.table q) r lu.ids e ∙ ap (λ b. if b then Some (row_item new.table r) else None) one)

  -- if two maps are ALIKE by names, no difference remains
  have_one : (n : List ℕ) (q r : Row) → HaveAlike old new (row_named old.table n) (row_named new.table n) → row_named old.table n ≡ Some q → row_named new.table n ≡ Some r → AreAlike old new q r
  have_one n q r alike e f = subst (λ o. HaveAlike old new (Some q) o) f (subst (λ o. HaveAlike old new o (row_named new.table n)) e alike)

  none_where_alike : AreAlikeByNames old new → stays old new ≡ []
  unfolding wanted_lines unwanted_lines wanted_line unwanted_line
  none_where_alike alike = stays_are old new ∙ (λ k. tree_none new.table (λ v. wanted_line old new (with_holder new.table v)) wanted_each k ++ tree_none old.table (λ v. unwanted_line new (with_holder old.table v)) unwanted_each k ++ settings_none old new alike.settings k) where
    wanted_each : (i : ItemId) (r : Row) → row_of new.table i ≡ Some r → stay_line r.name (wanted_of r) ≡ []
    wanted_each i r found = ap (stay_line r.name) (by_row (row_named old.table r.name) refl) where
      own : row_named new.table r.name ≡ Some r
      own = row_named_own new.table i r lu found

      by_row : (o : Option Row) → row_named old.table r.name ≡ o → wanted_of r ≡ []
      by_row None e = absurd (subst (λ o. HaveAlike old new None o) own (subst (λ o. HaveAlike old new o (row_named new.table r.name)) e (alike.items r.name)))
      by_row (Some q) e =
          let both = have_one r.name q r (alike.items r.name) e own in
          wanted_none q r e (test_of_one r.id q.id (one_turned q.id r.id both.one)) (none_differing q r (row_of_named old.table r.name q lt.ids e).1 (row_of_named new.table r.name r lu.ids own).1 both)

    unwanted_each : (i : ItemId) (q : Row) → row_of old.table i ≡ Some q → stay_line q.name (unwanted_parts (counterpart ById new.table (row_item old.table q))) ≡ []
    unwanted_each i q found = ap (stay_line q.name) (by_row (row_named new.table q.name) refl) where
      own : row_named old.table q.name ≡ Some q
      own = row_named_own old.table i q lt found

      by_row : (o : Option Row) → row_named new.table q.name ≡ o → unwanted_parts (counterpart ById new.table (row_item old.table q)) ≡ []
      by_row None e = absurd (subst (λ o. HaveAlike old new o None) own (subst (λ o. HaveAlike old new (row_named old.table q.name) o) e (alike.items q.name)))
      by_row (Some r) e = unwanted_none q r e (test_of_one q.id r.id (have_one q.name q r (alike.items q.name) own e).one)

  -- if NOTHING STAYS, the two maps are alike by names
  alike_where_none : stays old new ≡ [] → AreAlikeByNames old new
  unfolding wanted_lines unwanted_lines wanted_line unwanted_line
  alike_where_none none = record { items = λ n. by_rows n (row_named old.table n) (row_named new.table n) refl refl; settings = agree } where
    lines_none : wanted_lines old new ++ unwanted_lines old new ++ named_setting_lines old new ≡ []
    lines_none = sym (stays_are old new) ∙ none

    items_none : wanted_lines old new ++ unwanted_lines old new ≡ []
    items_none = nil_left (wanted_lines old new ++ unwanted_lines old new) (named_setting_lines old new) lines_none

    agree : SettingsAgree old new
    agree = settings_agree old new (nil_right (wanted_lines old new ++ unwanted_lines old new) (named_setting_lines old new) lines_none)

    wanted_each : (r : Row) → row_of new.table r.id ≡ Some r → wanted_of r ≡ []
    wanted_each r found = line_is_none r.name (wanted_of r) (rows_none new.table lu (λ v. wanted_line old new (with_holder new.table v)) (nil_left (wanted_lines old new) (unwanted_lines old new) items_none) r.id r found)

    unwanted_each : (q : Row) → row_of old.table q.id ≡ Some q → unwanted_parts (counterpart ById new.table (row_item old.table q)) ≡ []
    unwanted_each q found = line_is_none q.name _ (rows_none old.table lt (λ v. unwanted_line new (with_holder old.table v)) (nil_right (wanted_lines old new) (unwanted_lines old new) items_none) q.id q found)

    by_rows : (n : List ℕ) (a b : Option Row) → row_named old.table n ≡ a → row_named new.table n ≡ b → HaveAlike old new (row_named old.table n) (row_named new.table n)
    by_rows n None None ea eb = subst (λ o. HaveAlike old new o (row_named new.table n)) (sym ea) (subst (λ o. HaveAlike old new None o) (sym eb) tt)
    by_rows n None (Some r) ea eb =
        let own = row_of_named new.table n r lu.ids eb in
        absurd (wanted_lacks r (ap (row_named old.table) own.0 ∙ ea) (wanted_each r own.1))
    by_rows n (Some q) None ea eb =
        let own = row_of_named old.table n q lt.ids ea in
        absurd (unwanted_lacks q (ap (row_named new.table) own.0 ∙ eb) (unwanted_each q own.1))
    by_rows n (Some q) (Some r) ea eb =
        let here = row_of_named old.table n q lt.ids ea in
        let there = row_of_named new.table n r lu.ids eb in
        let tells = wanted_has q r (ap (row_named old.table) there.0 ∙ ea) (wanted_each r there.1) in
        subst (λ o. HaveAlike old new o (row_named new.table n)) (sym ea) (subst (λ o. HaveAlike old new (Some q) o) (sym eb) (are_alike q r agree here.1 there.1 (one_turned r.id q.id (one_of_test r.id q.id tells.0)) tells.1))

pub nothing_stays_where_alike : NothingStaysWhereAlike
nothing_stays_where_alike old new lt lu = (alike_where_none old new lt lu, none_where_alike old new lt lu)
