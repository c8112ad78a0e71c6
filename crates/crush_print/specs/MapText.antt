-- The text of a map, computed from its setting, its table and the form of its weights. docs/user/FORMATS.md describes it in words.
use Rattle.std.specs.Prelude.{◌≡◌, ℕ, zero, suc, List, [], ◌∷◌, ◌++◌, Some, length, All, map, flat_map, unwrap_or, codes}
use Rattle.std.specs.Option.{option_map_or}
use Rattle.crush_units.specs.declared.id.ItemId.{ItemId}
use Rattle.crush_units.specs.declared.id.ItemId.TheVariants.{Device, Bucket}
use Rattle.crush_model.specs.Lawful.{Lawful}
use Rattle.crush_model.specs.Same.{Same}
use Rattle.crush_edits.specs.Setting.{KindData, SettingData, kind_name, taken_buckets}
use Rattle.crush_edits.specs.Fits.{Fits}
use Rattle.crush_model.specs.Table.{Row, row_of, kids, sum_below, item_weight}
use Rattle.crush_print.specs.Lines.{tunable_line, device_line, kind_line, item_line, bucket_lines}
use Rattle.crush_print.specs.RuleLines.{bucket_name, rule_lines}
use Rattle.crush_print.specs.declared.weight_form.WeightForm.{WeightForm}
use Rattle.crush_items.specs.Order.{ascending, device_number, root_numbers}
pub use Rattle.crush_items.specs.Order.{put_in, ascending, device_number, root_number}
unfoldable pub use Rattle.crush_items.specs.Order.{root_numbers}

-- the numbers of all devices, in ascending order
unfoldable pub device_numbers : List Row → List ℕ
device_numbers t = ascending (flat_map (λ (r : Row). device_number r.id) t)

-- the numbers of all types, in ascending order
unfoldable pub kind_numbers : SettingData → List ℕ
kind_numbers s = ascending (map (λ (k : KindData). k.number) s.kinds)

-- what the function `line` returns for the row of the item i; nothing if the table doesn't have the item
unfoldable pub of_row : List Row → ItemId → (Row → List ℕ) → List ℕ
of_row t i line = option_map_or line (row_of t i) []

-- the name of the type n; an empty name if the setting doesn't have the type
unfoldable pub kind_text : SettingData → ℕ → List ℕ
kind_text s n = unwrap_or (kind_name s n) []

-- the lines of the items of the bucket b, in their order. The line of a device has the device's own weight. The line of a bucket has the sum of the weights of all devices below this bucket
unfoldable pub kids_lines : WeightForm → List Row → ℕ → List ℕ
kids_lines form t b = flat_map (λ i. of_row t i (λ (r : Row). item_line form r.name (item_weight t i r.weight))) (kids t b)

-- the text of the bucket b. It shows the bucket's row, the sum of the weights of all devices below the bucket, and the lines of the bucket's items
unfoldable pub bucket_text : WeightForm → SettingData → List Row → ℕ → List ℕ
bucket_text form s t b = of_row t (Bucket b) (λ (r : Row). bucket_lines form (kind_text s r.kind) r (sum_below t b) (kids_lines form t b))

-- the numbers of the buckets at the item i and below it, at most n levels down. Each bucket comes after the buckets below it, and these are in the order of its items
abbrev pub bucket_numbers_at : List Row → ℕ → ItemId → List ℕ
bucket_numbers_at t n (Device d) = []
bucket_numbers_at t zero (Bucket b) = []
bucket_numbers_at t (suc n) (Bucket b) = flat_map (bucket_numbers_at t n) (kids t b) ++ b ∷ []

-- the numbers of all buckets in the order of the text, one root after the other. The walk goes at most as many levels down as the table has rows, which is enough for every root
unfoldable pub bucket_numbers : List Row → List ℕ
bucket_numbers t = flat_map (λ b. bucket_numbers_at t (length t) (Bucket b)) (root_numbers t)

-- the lines of all devices
unfoldable pub device_lines : List Row → List ℕ
device_lines t = flat_map (λ d. of_row t (Device d) device_line) (device_numbers t)

-- the texts of all buckets
unfoldable pub root_texts : WeightForm → SettingData → List Row → List ℕ
root_texts form s t = flat_map (bucket_text form s t) (bucket_numbers t)

-- THE SECTIONS, each with its heading. The section of the tunables has the first line of the text, and then the tunables in the order in which they were declared
unfoldable pub tunable_section : SettingData → List ℕ
tunable_section s = codes "# begin crush map\n" ++ flat_map tunable_line s.tunables

-- the section of the devices
unfoldable pub device_section : List Row → List ℕ
device_section t = codes "\n# devices\n" ++ device_lines t

-- the section of the types
unfoldable pub kind_section : SettingData → List ℕ
kind_section s = codes "\n# types\n" ++ flat_map (λ n. kind_line n (kind_text s n)) (kind_numbers s)

-- the section of the buckets
unfoldable pub bucket_section : WeightForm → SettingData → List Row → List ℕ
bucket_section form s t = codes "\n# buckets\n" ++ root_texts form s t

-- the section of the rules, in the order in which they were declared. A bucket that a rule takes has the name that it has in the table
unfoldable pub rule_section : SettingData → List Row → List ℕ
rule_section s t = codes "\n# rules\n" ++ flat_map (rule_lines t) s.rules

-- MAP TEXT: the text of a map with this setting and this table, and with all weights in this form
unfoldable pub map_text : WeightForm → SettingData → List Row → List ℕ
map_text form s t = tunable_section s ++ device_section t ++ kind_section s ++ bucket_section form s t ++ rule_section s t ++ codes "\n# end crush map\n"

-- the law: if a lawful table t has the same rows as the table u, except for their order, then for every setting and each form of weights, both tables have the same text
abbrev pub SameTablesPrintAlike : Type 0
SameTablesPrintAlike = (form : WeightForm) (s : SettingData) (t u : List Row) → Lawful t → Same t u → map_text form s t ≡ map_text form s u

-- the table has the bucket b, and a printed rule that takes this bucket has the name in the bucket's row
abbrev pub IsNamedSo : List Row → ℕ → Type 0
IsNamedSo t b = (r : Row) × (row_of t (Bucket b) ≡ Some r) × (bucket_name t b ≡ r.name)

-- the law: if the setting fits the table, `IsNamedSo` holds for each bucket that a rule of the setting takes
abbrev pub TakenBucketsAreNamed : Type 0
TakenBucketsAreNamed = (s : SettingData) (t : List Row) → Fits s t → All (IsNamedSo t) (taken_buckets s)
