-- Proves that no item has a line if and only if both tables have equal rows.
use Rattle.std.proofs.Common.{◌≡◌, ℕ, Bool, true, false, List, [], ◌∷◌, ◌++◌, length, map, ap, sym, subst, ◌∙◌, refl, arith, ⊎_elim}
use Rattle.std.specs.Prelude.{flat_map, All, IfSome, Option, None, Some, ◌==◌, if◌then◌else◌, bytes_eq, codes, option_and_then}
use Rattle.std.specs.Cmp.Lexicographic.{pointwise}
use Rattle.std.specs.Option.{option_map, option_map_or}
use Rattle.std.proofs.lemmas.Bool.Decides.{eqb_tells}
use Rattle.std.proofs.lemmas.List.Concat.{flat_map-append}
use Rattle.std.proofs.lemmas.List.Folds.{flat_map-map}
use Rattle.std.proofs.lemmas.List.Elements.{All-head, All-tail}
use Rattle.crush_units.specs.declared.alg.Alg.{Alg}
use Rattle.crush_units.specs.declared.id.ItemId.{ItemId}
use Rattle.crush_units.specs.declared.id.ItemId.TheVariants.{Device, Bucket}
use Rattle.crush_units.proofs.Algs.{same_alg_equal}
use Rattle.crush_units.proofs.Ids.{same_id_tells}
use Rattle.crush_model.specs.Items.{ShadowData}
use Rattle.crush_model.specs.Lawful.{Lawful, IsRow, IsRowOf}
use Rattle.crush_model.specs.Table.{Row, row_of, bucket_ids, item_weight}
use Rattle.crush_model.proofs.Moved.{row_id}
use Rattle.crush_model.proofs.Same.{item_weight-same}
use Rattle.crush_model.proofs.Tested.{bytes_equal}
use Rattle.crush_edits.specs.Setting.{SettingData}
use Rattle.crush_print.specs.MapText.{ascending, device_number}
use Rattle.crush_compare.specs.Equal.{same_option, same_text}
use Rattle.crush_items.specs.ItemData.{ItemData, row_item, item_of, own_class_ids}
use Rattle.crush_since.specs.ItemParts.{same_algs, same_class_id, part, name_part, type_part, place_part, weight_part, class_part, alg_part, class_ids_part, changes, parts, behind, line, item_line}
use Rattle.crush_since.specs.ItemWords.{item_word, whole_word}
use Rattle.crush_since.specs.Since.{plain_map, same_class_ids, id_line, once_behind, all_ids, all_buckets, all_devices, item_lines}
use Rattle.crush_since.specs.SinceLaws.{NoItemWhereRowsAreEqual}
use Rattle.crush_since.proofs.EqualRows.{equal_rows_reordered}
use Rattle.crush_since.proofs.SinceItself.{no_line, nothing_of, pairs_itself, class_id_itself}
use Rattle.crush_since.proofs.TreeLaws.{nil_left, nil_right, not_none, some_is, unsorted}
use Rattle.crush_nodes.proofs.StoredLaws.{first_of, second_of}

-- if both tables have EQUAL ROWS, there are no lines
rows_tell_nothing : (s p : SettingData) (t u : List Row) → Lawful t → Lawful u → ((i : ItemId) → row_of t i ≡ row_of u i) → item_lines (plain_map s t) (plain_map p u) ≡ []
unfolding item_lines id_line
rows_tell_nothing s p t u lt lu same = nothing_of (λ i. item_line s p i (item_of t i) (item_of u i) (same_class_ids t u i)) each (all_ids t u) where
  row_item-same : (r : Row) → row_item t r ≡ row_item u r
  row_item-same r = λ k. record {
    view = record { id = r.id; kind = r.kind; name = r.name; weight = item_weight-same t u (equal_rows_reordered t u lt.ids lu.ids same) lt.ids r.id r.weight k; parent = r.parent; class = r.class; alg = r.alg };
    holder = option_and_then (λ b. option_map (λ (x : Row). x.name) (same (Bucket b) k)) r.parent;
  }

  item-same : (i : ItemId) → item_of t i ≡ item_of u i
  item-same i = ap (option_map (row_item t)) (same i) ∙ (λ k. option_map (λ r. row_item-same r k) (row_of u i))

  ids-same : (i : ItemId) → own_class_ids t i ≡ own_class_ids u i
  ids-same (Device d) = refl
  ids-same (Bucket b) = ap (λ o. option_map_or (λ (r : Row). r.class_ids) o []) (same (Bucket b))

  each : (i : ItemId) → item_line s p i (item_of t i) (item_of u i) (same_class_ids t u i) ≡ []
  each i = (λ k. item_line s p i (item-same i k) (item_of u i) (pointwise same_class_id (ids-same i k) (own_class_ids u i))) ∙ no_line s p i (item_of u i) (pointwise same_class_id (own_class_ids u i) (own_class_ids u i)) (pairs_itself same_class_id class_id_itself (own_class_ids u i))

-- what holds for each number of a list without its repetitions holds for each number of the list
option_is : (o : Option ℕ) (x : ℕ) (g : ℕ → List ℕ) → IfSome o (λ n. g n ≡ []) → same_option o (Some x) ≡ true → g x ≡ []
option_is None x g h e = absurd cc
option_is (Some n) x g h e = ⊎_elim (λ q. ap g (sym q.1) ∙ h) (λ q. absurd (let no_way : true ≡ false = sym e ∙ q.0 in cc)) (eqb_tells n x)

unrepeated : (g : ℕ → List ℕ) (last : Option ℕ) (xs : List ℕ) → IfSome last (λ n. g n ≡ []) → flat_map g (once_behind last xs) ≡ [] → flat_map g xs ≡ []
unrepeated g last [] h e = refl
unrepeated g last (x ∷ xs) h e = at (same_option last (Some x)) refl (λ here rest. unrepeated g (Some x) xs here rest) e where
  at : (b : Bool) → same_option last (Some x) ≡ b → (g x ≡ [] → flat_map g (once_behind (Some x) xs) ≡ [] → flat_map g xs ≡ []) → flat_map g (if b then once_behind (Some x) xs else x ∷ once_behind (Some x) xs) ≡ [] → g x ++ flat_map g xs ≡ []
  at true q f e = let here = option_is last x g h q in (λ k. here k ++ f here e k)
  at false q f e = let here = nil_left (g x) (flat_map g (once_behind (Some x) xs)) e in (λ k. here k ++ f here (nil_right (g x) (flat_map g (once_behind (Some x) xs)) e) k)

-- what holds for the numbers of all rows holds for the number of each row
at_id : (numbers : ItemId → List ℕ) (g : ℕ → List ℕ) (t : List Row) (i : ItemId) (r : Row) → row_of t i ≡ Some r → flat_map g (flat_map (λ (x : Row). numbers x.id) t) ≡ [] → flat_map g (numbers i) ≡ []
at_id numbers g [] i r found e = absurd cc
at_id numbers g (x ∷ t) i r found e =
    let both : flat_map g (numbers x.id) ++ flat_map g (flat_map (λ (y : Row). numbers y.id) t) ≡ [] = sym (flat_map-append g (numbers x.id) (flat_map (λ (y : Row). numbers y.id) t)) ∙ e in
    ⊎_elim
    (λ q. ap (λ j. flat_map g (numbers j)) (sym q.1) ∙ nil_left (flat_map g (numbers x.id)) (flat_map g (flat_map (λ (y : Row). numbers y.id) t)) both)
    (λ q. at_id numbers g t i r (sym (ap (λ b. if b then Some x else row_of t i) q.0) ∙ found) (nil_right (flat_map g (numbers x.id)) (flat_map g (flat_map (λ (y : Row). numbers y.id) t)) both))
    (same_id_tells x.id i)

-- if there are no lines, no id of a row of either table has a line
module _ (f : ItemId → List ℕ) (t u : List Row) (e : flat_map f (all_ids t u) ≡ []) where
  both_kinds : flat_map f (map Bucket (all_buckets t u)) ++ flat_map f (map Device (all_devices t u)) ≡ []
  unfolding all_ids
  both_kinds = sym (flat_map-append f (map Bucket (all_buckets t u)) (map Device (all_devices t u))) ∙ e

  numbers_of_both : (numbers : ItemId → List ℕ) (g : ℕ → List ℕ) → flat_map g (once_behind None (ascending (flat_map (λ (r : Row). numbers r.id) t ++ flat_map (λ (r : Row). numbers r.id) u))) ≡ []
      → flat_map g (flat_map (λ (r : Row). numbers r.id) t) ++ flat_map g (flat_map (λ (r : Row). numbers r.id) u) ≡ []
  numbers_of_both numbers g h =
      sym (flat_map-append g (flat_map (λ (r : Row). numbers r.id) t) (flat_map (λ (r : Row). numbers r.id) u))
      ∙ unsorted g (flat_map (λ (r : Row). numbers r.id) t ++ flat_map (λ (r : Row). numbers r.id) u) (unrepeated g None (ascending (flat_map (λ (r : Row). numbers r.id) t ++ flat_map (λ (r : Row). numbers r.id) u)) tt h)

  bucket_numbers_of_both : flat_map (λ b. f (Bucket b)) (flat_map (λ (r : Row). bucket_ids r.id) t) ++ flat_map (λ b. f (Bucket b)) (flat_map (λ (r : Row). bucket_ids r.id) u) ≡ []
  unfolding all_buckets
  bucket_numbers_of_both = numbers_of_both bucket_ids (λ b. f (Bucket b)) (sym (flat_map-map f Bucket (all_buckets t u)) ∙ nil_left (flat_map f (map Bucket (all_buckets t u))) (flat_map f (map Device (all_devices t u))) both_kinds)

  device_numbers_of_both : flat_map (λ d. f (Device d)) (flat_map (λ (r : Row). device_number r.id) t) ++ flat_map (λ d. f (Device d)) (flat_map (λ (r : Row). device_number r.id) u) ≡ []
  unfolding all_devices
  device_numbers_of_both = numbers_of_both device_number (λ d. f (Device d)) (sym (flat_map-map f Device (all_devices t u)) ∙ nil_right (flat_map f (map Bucket (all_buckets t u))) (flat_map f (map Device (all_devices t u))) both_kinds)

  told_of_first : (i : ItemId) (r : Row) → row_of t i ≡ Some r → f i ≡ []
  told_of_first (Bucket b) r found = nil_left (f (Bucket b)) [] (at_id bucket_ids (λ x. f (Bucket x)) t (Bucket b) r found (nil_left _ _ bucket_numbers_of_both))
  told_of_first (Device d) r found = nil_left (f (Device d)) [] (at_id device_number (λ x. f (Device x)) t (Device d) r found (nil_left _ _ device_numbers_of_both))

  told_of_second : (i : ItemId) (r : Row) → row_of u i ≡ Some r → f i ≡ []
  told_of_second (Bucket b) r found = nil_left (f (Bucket b)) [] (at_id bucket_ids (λ x. f (Bucket x)) u (Bucket b) r found (nil_right _ _ bucket_numbers_of_both))
  told_of_second (Device d) r found = nil_left (f (Device d)) [] (at_id device_number (λ x. f (Device x)) u (Device d) r found (nil_right _ _ device_numbers_of_both))

-- COLUMNS: if the test of a column finds no difference, the values are equal
line_is_none : (name : List ℕ) (i : ItemId) (ps : List (List ℕ)) → line name i ps ≡ [] → ps ≡ []
line_is_none name i [] h = refl
line_is_none name i (p ∷ ps) h = absurd (let newline : List ℕ = 10 ∷ [] in let last : newline ≡ [] = nil_right (item_word name i ++ codes ": " ++ (p ++ behind ps)) newline h in not_none 10 [] last)

pub part_is_none : (same : Bool) (text : List ℕ) → part same text ≡ [] → same ≡ true
part_is_none true text h = refl
part_is_none false text h = absurd (let long : length (text ∷ []) ≡ 0 = ap length h in omega (arith, long))

pub number_equal : (a b : ℕ) → (a == b) ≡ true → a ≡ b
number_equal a b h = ⊎_elim (λ q. q.1) (λ q. absurd (let no_way : true ≡ false = sym h ∙ q.0 in cc)) (eqb_tells a b)

option_equal : (a b : Option ℕ) → same_option a b ≡ true → a ≡ b
option_equal None None h = refl
option_equal None (Some y) h = absurd cc
option_equal (Some x) None h = absurd cc
option_equal (Some x) (Some y) h = ap Some (number_equal x y h)

pub text_equal : (a b : Option (List ℕ)) → same_text a b ≡ true → a ≡ b
text_equal None None h = refl
text_equal None (Some y) h = absurd cc
text_equal (Some x) None h = absurd cc
text_equal (Some x) (Some y) h = ap Some (bytes_equal x y h)

pub algs_equal : (a b : Option Alg) → same_algs a b ≡ true → a ≡ b
algs_equal None None h = refl
algs_equal None (Some y) h = absurd cc
algs_equal (Some x) None h = absurd cc
algs_equal (Some x) (Some y) h = ap Some (same_alg_equal x y h)

class_ids_equal : (xs ys : List ShadowData) → pointwise same_class_id xs ys ≡ true → xs ≡ ys
class_ids_equal [] [] h = refl
class_ids_equal [] (y ∷ ys) h = absurd cc
class_ids_equal (x ∷ xs) [] h = absurd cc
class_ids_equal (x ∷ xs) (y ∷ ys) h =
    let here : same_class_id x y ≡ true = first_of (same_class_id x y) (pointwise same_class_id xs ys) h in
    (λ k. (record { id = number_equal x.id y.id (first_of (x.id == y.id) (bytes_eq x.class y.class) here) k; class = bytes_equal x.class y.class (second_of (x.id == y.id) (bytes_eq x.class y.class) here) k })
    ∷ class_ids_equal xs ys (second_of (same_class_id x y) (pointwise same_class_id xs ys) h) k)

-- A ROW has the form that `IsRowOf` demands for its id
row_form : (t : List Row) (i : ItemId) (r : Row) → All IsRow t → row_of t i ≡ Some r → IsRowOf i r
row_form [] i r all found = absurd cc
row_form (x ∷ t) i r all found = ⊎_elim
    (λ q. let is : x ≡ r = some_is x r (sym (ap (λ b. if b then Some x else row_of t i) q.0) ∙ found) in subst (λ y. IsRowOf i y) is (subst (λ j. IsRowOf j x) q.1 (All-head IsRow x t all).form))
    (λ q. row_form t i r (All-tail IsRow x t all) (sym (ap (λ b. if b then Some x else row_of t i) q.0) ∙ found))
    (same_id_tells x.id i)

-- ROWS about which there is no line are equal
module _ (s p : SettingData) (t u : List Row) (lt : Lawful t) (lu : Lawful u) where
  weights : (i : ItemId) (r q : Row) → IsRowOf i r → IsRowOf i q → item_weight t i r.weight ≡ item_weight u i q.weight → r.weight ≡ q.weight
  weights (Device d) r q fr fq e = e
  weights (Bucket b) r q fr fq e = fr.weight ∙ sym fq.weight

  ids : (i : ItemId) (r q : Row) → row_of t i ≡ Some r → row_of u i ≡ Some q → IsRowOf i r → IsRowOf i q → own_class_ids t i ≡ own_class_ids u i → r.class_ids ≡ q.class_ids
  ids (Device d) r q er eq fr fq e = fr.class_ids ∙ sym fq.class_ids
  ids (Bucket b) r q er eq fr fq e = sym (ap (λ o. option_map_or (λ (x : Row). x.class_ids) o []) er) ∙ e ∙ ap (λ o. option_map_or (λ (x : Row). x.class_ids) o []) eq

  rows_equal : (i : ItemId) (r q : Row) → row_of t i ≡ Some r → row_of u i ≡ Some q → changes s p (row_item t r) (row_item u q) (same_class_ids t u i) ≡ [] → r ≡ q
  rows_equal i r q er eq none =
      let a : ItemData = row_item t r in
      let b : ItemData = row_item u q in
      let to_alg = nil_left (name_part a.view b.view ++ type_part s p a.view b.view ++ place_part a b ++ weight_part a.view b.view ++ class_part a.view b.view ++ alg_part a.view b.view) (class_ids_part (same_class_ids t u i)) none in
      let to_class = nil_left (name_part a.view b.view ++ type_part s p a.view b.view ++ place_part a b ++ weight_part a.view b.view ++ class_part a.view b.view) (alg_part a.view b.view) to_alg in
      let to_weight = nil_left (name_part a.view b.view ++ type_part s p a.view b.view ++ place_part a b ++ weight_part a.view b.view) (class_part a.view b.view) to_class in
      let to_place = nil_left (name_part a.view b.view ++ type_part s p a.view b.view ++ place_part a b) (weight_part a.view b.view) to_weight in
      let to_type = nil_left (name_part a.view b.view ++ type_part s p a.view b.view) (place_part a b) to_place in
      let same_ids : r.id ≡ q.id = row_id i t r er ∙ sym (row_id i u q eq) in
      let fr = row_form t i r lt.rows er in
      let fq = row_form u i q lu.rows eq in
      let name = bytes_equal r.name q.name (part_is_none _ _ (nil_left (name_part a.view b.view) (type_part s p a.view b.view) to_type)) in
      let kind = number_equal r.kind q.kind (part_is_none _ _ (nil_right (name_part a.view b.view) (type_part s p a.view b.view) to_type)) in
      let parent = option_equal r.parent q.parent (part_is_none _ _ (nil_right (name_part a.view b.view ++ type_part s p a.view b.view) (place_part a b) to_place)) in
      let sum = number_equal (item_weight t r.id r.weight) (item_weight u q.id q.weight) (part_is_none _ _ (nil_right (name_part a.view b.view ++ type_part s p a.view b.view ++ place_part a b) (weight_part a.view b.view) to_weight)) in
      let class = text_equal r.class q.class (part_is_none _ _ (nil_right (name_part a.view b.view ++ type_part s p a.view b.view ++ place_part a b ++ weight_part a.view b.view) (class_part a.view b.view) to_class)) in
      let alg = algs_equal r.alg q.alg (part_is_none _ _ (nil_right (name_part a.view b.view ++ type_part s p a.view b.view ++ place_part a b ++ weight_part a.view b.view ++ class_part a.view b.view) (alg_part a.view b.view) to_alg)) in
      let own_ids = class_ids_equal (own_class_ids t i) (own_class_ids u i) (part_is_none _ _ (nil_right (name_part a.view b.view ++ type_part s p a.view b.view ++ place_part a b ++ weight_part a.view b.view ++ class_part a.view b.view ++ alg_part a.view b.view) (class_ids_part (same_class_ids t u i)) none)) in
      let weight = weights i r q fr fq (ap (λ j. item_weight t j r.weight) (sym (row_id i t r er)) ∙ sum ∙ ap (λ j. item_weight u j q.weight) (row_id i u q eq)) in
      let class_ids = ids i r q er eq fr fq own_ids in
      λ k. record { id = same_ids k; kind = kind k; name = name k; parent = parent k; weight = weight k; class = class k; alg = alg k; class_ids = class_ids k }

  nothing_told_equal : item_lines (plain_map s t) (plain_map p u) ≡ [] → (i : ItemId) → row_of t i ≡ row_of u i
  unfolding item_lines id_line
  nothing_told_equal e i = by_rows (row_of t i) (row_of u i) refl refl where
    f : ItemId → List ℕ
    f j = item_line s p j (item_of t j) (item_of u j) (same_class_ids t u j)

    by_rows : (a b : Option Row) → row_of t i ≡ a → row_of u i ≡ b → a ≡ b
    by_rows None None ea eb = refl
    by_rows None (Some q) ea eb =
        let none : item_line s p i None (Some (row_item u q)) (same_class_ids t u i) ≡ [] = (λ k. item_line s p i (option_map (row_item t) (sym ea k)) (option_map (row_item u) (sym eb k)) (same_class_ids t u i)) ∙ told_of_second f t u e i q eb in
        absurd (not_none (codes "made as " ++ whole_word p (row_item u q)) [] (line_is_none q.name i (parts s p None (Some (row_item u q)) (same_class_ids t u i)) none))
    by_rows (Some r) None ea eb =
        let none : item_line s p i (Some (row_item t r)) None (same_class_ids t u i) ≡ [] = (λ k. item_line s p i (option_map (row_item t) (sym ea k)) (option_map (row_item u) (sym eb k)) (same_class_ids t u i)) ∙ told_of_first f t u e i r ea in
        absurd (not_none (codes "removed, was " ++ whole_word s (row_item t r)) [] (line_is_none r.name i (parts s p (Some (row_item t r)) None (same_class_ids t u i)) none))
    by_rows (Some r) (Some q) ea eb =
        let none : item_line s p i (Some (row_item t r)) (Some (row_item u q)) (same_class_ids t u i) ≡ [] = (λ k. item_line s p i (option_map (row_item t) (sym ea k)) (option_map (row_item u) (sym eb k)) (same_class_ids t u i)) ∙ told_of_first f t u e i r ea in
        ap Some (rows_equal i r q ea eb (line_is_none q.name i (changes s p (row_item t r) (row_item u q) (same_class_ids t u i)) none))

pub no_item_where_rows_are_equal : NoItemWhereRowsAreEqual
no_item_where_rows_are_equal s p t u lt lu = (nothing_told_equal s p t u lt lu, rows_tell_nothing s p t u lt lu)
