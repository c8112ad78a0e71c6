-- The class ids of a bucket as values.
use Rattle.std.specs.Prelude.{List, codes, map}
use Rattle.crush_units.specs.Id.{bucket_number}
use Rattle.crush_model.specs.Items.{ShadowData}
use Rattle.serde_json.specs.Data.{Data, string, object, member, no_members}
use Rattle.crush_json.specs.Values.{whole, list}

-- the value for a class id: the class, and the id that the bucket has for the class
unfoldable pub class_id_document : ShadowData → Data
class_id_document x = object (member (codes "class") (string x.class) (member (codes "id") (whole (bucket_number x.id)) no_members))

-- the class ids of a bucket, in the order in which the map has them
abbrev pub class_ids_document : List ShadowData → Data
class_ids_document xs = list (map class_id_document xs)
