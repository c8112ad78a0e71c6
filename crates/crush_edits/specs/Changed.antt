-- Whether two tables are equal, row by row. (The relation Same of crush_model also relates tables whose rows are in different orders.)
use Rattle.std.specs.Prelude.{List, Bool, ◌==◌, ◌&&◌, bytes_eq, nat_eq}
use Rattle.std.specs.Option.{option_eq}
use lib.Pointwise.{pointwise}
use Rattle.crush_units.specs.Id.{same_id}
use Rattle.crush_units.specs.Alg.{same_alg}
use Rattle.crush_model.specs.Items.{ShadowData}
use Rattle.crush_model.specs.Table.{Row}

-- whether two class ids are equal: both have the same id and the same class
abbrev pub same_class : ShadowData → ShadowData → Bool
same_class a b = (a.id == b.id) && bytes_eq a.class b.class

-- whether two rows have the same value in every column
abbrev pub same_row : Row → Row → Bool
same_row a b = same_id a.id b.id && (a.kind == b.kind) && bytes_eq a.name b.name && option_eq nat_eq a.parent b.parent && (a.weight == b.weight) && option_eq bytes_eq a.class b.class && option_eq same_alg a.alg b.alg && pointwise same_class a.class_ids b.class_ids

-- whether two tables have the same rows in the same order
abbrev pub same_table : List Row → List Row → Bool
same_table = pointwise same_row
