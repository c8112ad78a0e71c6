-- The lines of a printed map, each computed from the row or the setting that it shows.
use Rattle.std.specs.Prelude.{ℕ, List, [], ◌∷◌, ◌++◌, Option, Some, None, codes, decimal, flat_map}
use Rattle.std.specs.Option.{option_map_or}
use Rattle.crush_units.specs.declared.id.ItemId.{ItemId}
use Rattle.crush_units.specs.declared.id.ItemId.TheVariants.{Device, Bucket}
use Rattle.crush_units.specs.Alg.{alg_text}
use Rattle.crush_units.specs.Weight.{weight_text}
use Rattle.crush_units.specs.ExactWeight.{exact_text}
use Rattle.crush_model.specs.Items.{ShadowData}
use Rattle.crush_model.specs.Table.{Row}
use Rattle.crush_edits.specs.Setting.{TunableData}
use Rattle.crush_print.specs.declared.weight_form.WeightForm.{WeightForm}
use Rattle.crush_print.specs.declared.weight_form.WeightForm.TheVariants.{Rounded, Exact}

-- an item's id as it is printed; the id of a bucket has a minus sign
abbrev pub id_text : ItemId → List ℕ
id_text (Device d) = decimal d
id_text (Bucket b) = 45 ∷ decimal b

-- the text ` class C` if there is a class, otherwise no text
abbrev pub class_text : Option (List ℕ) → List ℕ
class_text None = []
class_text (Some c) = codes " class " ++ c

-- a weight in this form: rounded to five digits after the point, or exact with six
abbrev pub weight_in : WeightForm → ℕ → List ℕ
weight_in Rounded weight = weight_text weight
weight_in Exact weight = exact_text weight

-- `tunable NAME N`
unfoldable pub tunable_line : TunableData → List ℕ
tunable_line k = codes "tunable " ++ k.name ++ codes " " ++ decimal k.value ++ codes "\n"

-- `device N NAME`, and ` class C` if the device has a class
unfoldable pub device_line : Row → List ℕ
device_line r = codes "device " ++ id_text r.id ++ codes " " ++ r.name ++ class_text r.class ++ codes "\n"

-- `type N NAME`
unfoldable pub kind_line : ℕ → List ℕ → List ℕ
kind_line n name = codes "type " ++ decimal n ++ codes " " ++ name ++ codes "\n"

-- `item NAME weight W`: the line of an item with this name and this weight; the weight is printed in the given form
unfoldable pub item_line : WeightForm → List ℕ → ℕ → List ℕ
item_line form name weight = codes "\titem " ++ name ++ codes " weight " ++ weight_in form weight ++ codes "\n"

-- `id -M class C`, and the comment that follows each id of a bucket
unfoldable pub class_id_line : ShadowData → List ℕ
class_id_line c = codes "\tid " ++ id_text (Bucket c.id) ++ codes " class " ++ c.class ++ codes "\t\t# do not change unnecessarily\n"

-- the first lines of a bucket: its type, its name and `{`, and then the line of its id
unfoldable pub bucket_head : List ℕ → List ℕ → ItemId → List ℕ
bucket_head kind name id = kind ++ codes " " ++ name ++ codes " {\n\tid " ++ id_text id ++ codes "\t\t# do not change unnecessarily\n"

-- three lines of a bucket: its weight (as a comment), its algorithm, and its hash
unfoldable pub bucket_choice : WeightForm → Row → ℕ → List ℕ
bucket_choice form r weight = codes "\t# weight " ++ weight_in form weight ++ codes "\n\talg " ++ option_map_or alg_text r.alg [] ++ codes "\n\thash 0\t# rjenkins1\n"

-- all lines of a bucket; the last argument is the lines of its items
unfoldable pub bucket_lines : WeightForm → List ℕ → Row → ℕ → List ℕ → List ℕ
bucket_lines form kind r weight items = bucket_head kind r.name r.id ++ flat_map class_id_line r.class_ids ++ bucket_choice form r weight ++ items ++ codes "}\n"
