-- Whether two maps say the same about an item.
use Rattle.std.specs.Prelude.{◌==◌, Bool, true, false, ◌&&◌, Option, None, Some, bytes_eq}
use Rattle.crush_units.specs.declared.alg.Alg.{Alg}
use Rattle.crush_units.specs.Alg.{same_alg}
use Rattle.crush_model.specs.Items.{ShadowData}
use Rattle.crush_compare.specs.Equal.{same_option, same_text}
use Rattle.crush_items.specs.ItemData.{ItemData}

-- TESTS that compare single columns
abbrev pub same_algs : Option Alg → Option Alg → Bool
same_algs None None = true
same_algs None (Some b) = false
same_algs (Some a) None = false
same_algs (Some a) (Some b) = same_alg a b

abbrev pub same_class_id : ShadowData → ShadowData → Bool
same_class_id x y = (x.id == y.id) && bytes_eq x.class y.class

-- whether two maps say the same about an item in each column and in its class ids
abbrev pub same_item : ItemData → ItemData → Bool → Bool
same_item a b same =
    (((((bytes_eq a.view.name b.view.name && (a.view.kind == b.view.kind)) && same_option a.view.parent b.view.parent) && (a.view.weight == b.view.weight))
    && same_text a.view.class b.view.class) && same_algs a.view.alg b.view.alg) && same
