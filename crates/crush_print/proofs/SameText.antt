-- Two tables that are the same, except for the order of their rows, have the same text.
use Rattle.std.proofs.Common.{◌≡◌, ◌<◌, ℕ, zero, suc, arith, List, [], ◌∷◌, ◌++◌, refl, ap, ◌∙◌}
use Rattle.std.specs.Prelude.{flat_map, length, codes, unwrap_or}
use Rattle.std.specs.Option.{option_map, option_map_or}
use Rattle.crush_units.specs.declared.id.ItemId.{ItemId}
use Rattle.crush_units.specs.declared.id.ItemId.TheVariants.{Device, Bucket}
use Rattle.crush_model.specs.Lawful.{Lawful}
use Rattle.crush_model.specs.Same.{Same}
use Rattle.crush_edits.specs.Setting.{StepData, take, choose, set, emit, RuleData, SettingData}
use Rattle.crush_model.specs.Table.{Row, item_weight}
use Rattle.crush_model.proofs.Found.{row_of-same}
use Rattle.crush_model.proofs.Reorder.{reordered-length}
use Rattle.crush_model.proofs.Same.{sum_below-same, item_weight-same}
use Rattle.crush_print.specs.declared.weight_form.WeightForm.{WeightForm}
use Rattle.crush_print.specs.Lines.{device_line, item_line, bucket_lines}
use Rattle.crush_print.specs.RuleLines.{bucket_name, take_line, step_line, rule_head, size_line, rule_lines}
use Rattle.crush_print.specs.MapText.{device_number, root_number, device_numbers, root_numbers, of_row, kind_text, kids_lines, bucket_text, bucket_numbers_at, bucket_numbers, device_lines, root_texts, tunable_section, device_section, kind_section, bucket_section, rule_section, map_text, SameTablesPrintAlike}
use Rattle.crush_items.proofs.Sorting.{ascending-reordered}

module _ (form : WeightForm) (s : SettingData) (t u : List Row) (l : Lawful t) (same : Same t u) where
  -- what is printed from an item's row is the same
  of_row-same : (i : ItemId) (f : Row → List ℕ) → of_row t i f ≡ of_row u i f
  unfolding of_row
  of_row-same i f = ap (λ o. option_map_or f o []) (row_of-same t u same.rows l.ids i)

  -- the line of an item is the same
  item-same : (i : ItemId) → of_row t i (λ (r : Row). item_line form r.name (item_weight t i r.weight)) ≡ of_row u i (λ (r : Row). item_line form r.name (item_weight u i r.weight))
  item-same i = of_row-same i (λ (r : Row). item_line form r.name (item_weight t i r.weight)) ∙ (λ k. of_row u i (λ (r : Row). item_line form r.name (item_weight-same t u same.rows l.ids i r.weight k)))

  -- the lines of a bucket's items are the same
  kids_lines-same : (b : ℕ) → kids_lines form t b ≡ kids_lines form u b
  unfolding kids_lines
  kids_lines-same b = λ k. flat_map (λ i. item-same i k) (same.kids b k)

  -- the text of a bucket is the same
  bucket_text-same : (b : ℕ) → bucket_text form s t b ≡ bucket_text form s u b
  unfolding bucket_text
  bucket_text-same b = of_row-same (Bucket b) _ ∙ (λ k. of_row u (Bucket b) (λ (r : Row). bucket_lines form (kind_text s r.kind) r (sum_below-same t u same.rows l.ids b k) (kids_lines-same b k)))

  -- the numbers of an item and of the buckets below it are the same
  bucket_numbers_at-same : (n : ℕ) (i : ItemId) → bucket_numbers_at t n i ≡ bucket_numbers_at u n i
  bucket_numbers_at-same n (Device d) = refl
  bucket_numbers_at-same zero (Bucket b) = refl
  bucket_numbers_at-same (suc n) (Bucket b) = λ k. flat_map (λ i. bucket_numbers_at-same n i k) (same.kids b k) ++ b ∷ []

  -- and the numbers of all buckets are the same
  bucket_numbers-same : bucket_numbers t ≡ bucket_numbers u
  unfolding bucket_numbers root_numbers
  bucket_numbers-same =
      ap (λ n. flat_map (λ b. bucket_numbers_at t n (Bucket b)) (root_numbers t)) (reordered-length same.rows) ∙ (λ k. flat_map (λ b. bucket_numbers_at-same (length u) (Bucket b) k) (ascending-reordered root_number t u same.rows k))

  device_lines-same : device_lines t ≡ device_lines u
  unfolding device_lines device_numbers
  device_lines-same = λ k. flat_map (λ d. of_row-same (Device d) device_line k) (ascending-reordered (λ (r : Row). device_number r.id) t u same.rows k)

  root_texts-same : root_texts form s t ≡ root_texts form s u
  unfolding root_texts
  root_texts-same = λ k. flat_map (λ b. bucket_text-same b k) (bucket_numbers-same k)

  -- the name of a bucket that a rule takes is the same
  bucket_name-same : (b : ℕ) → bucket_name t b ≡ bucket_name u b
  unfolding bucket_name
  bucket_name-same b = ap (λ o. unwrap_or (option_map (λ (r : Row). r.name) o) []) (row_of-same t u same.rows l.ids (Bucket b))

  step_line-same : (x : StepData) → step_line t x ≡ step_line u x
  step_line-same (take b class) = ap (λ n. take_line n class) (bucket_name-same b)
  step_line-same (choose leaf firstn count kind) = refl
  step_line-same (set name value) = refl
  step_line-same emit = refl

  rule_lines-same : (r : RuleData) → rule_lines t r ≡ rule_lines u r
  unfolding rule_lines
  rule_lines-same r = ap (λ l. rule_head r ++ size_line (codes "\tmin_size ") r.min_size ++ size_line (codes "\tmax_size ") r.max_size ++ l ++ codes "}\n") (λ k. flat_map (λ x. step_line-same x k) r.steps)

-- so the text of the map is the same
pub map_text-same : SameTablesPrintAlike
unfolding map_text device_section bucket_section rule_section
map_text-same form s t u l same =
    λ k. tunable_section s ++ (codes "\n# devices\n" ++ device_lines-same form s t u l same k) ++ kind_section s ++ (codes "\n# buckets\n" ++ root_texts-same form s t u l same k)
    ++ (codes "\n# rules\n" ++ flat_map (λ r. rule_lines-same form s t u l same r k) s.rules) ++ codes "\n# end crush map\n"

-- a map's text isn't empty: it begins with its first heading
pub map_text_is_some : (form : WeightForm) (s : SettingData) (t : List Row) → 0 < length (map_text form s t)
unfolding map_text tunable_section
map_text_is_some form s t = omega arith
