-- The columns in which two tables say different things about an item, if items are matched by their names.
use Rattle.std.specs.Prelude.{ℕ, Bool, true, false, not, List, [], bytes_eq, unwrap_or}
use Rattle.crush_units.specs.declared.id.ItemId.{ItemId}
use Rattle.crush_units.specs.declared.id.ItemId.TheVariants.{Device, Bucket}
use Rattle.crush_edits.specs.Setting.{SettingData, kind_name}
use Rattle.crush_items.specs.ItemData.{ItemData}
use Rattle.crush_compare.specs.Columns.{columns_by_ids, equal_weights}
use Rattle.crush_compare.specs.Equal.{same_text}
use Rattle.crush_compare.specs.SameItem.{same_algs}
use Rattle.crush_compare.specs.declared.difference.Columns.{Columns}
use Rattle.crush_compare.specs.declared.difference.Report.{Report}
use Rattle.crush_compare.specs.declared.identity.Identity.{Identity}
use Rattle.crush_compare.specs.declared.identity.Identity.TheVariants.{Ids, Names}

-- the name that a map's setting has for a type; an empty name if the setting doesn't have the type
abbrev pub type_name : SettingData → ℕ → List ℕ
type_name s kind = unwrap_or (kind_name s kind) []

-- whether the types of two items have the same name; always true for devices
abbrev pub same_type : ItemId → List ℕ → List ℕ → Bool
same_type (Device d) a b = true
same_type (Bucket b) a c = bytes_eq a c

-- COLUMNS BY NAMES: the columns that differ if items are matched by their names. a and b are what the two tables say about the item. Types and places are compared by their names, and no ids are compared
abbrev pub columns_by_names : Report → SettingData → SettingData → ItemData → ItemData → Columns
columns_by_names report s p a b = record {
  name = false;
  kind = not (same_type a.view.id (type_name s a.view.kind) (type_name p b.view.kind));
  place = not (same_text a.holder b.holder);
  weight = not (equal_weights report a.view.id a.view.weight b.view.weight);
  class = not (same_text a.view.class b.view.class);
  alg = not (same_algs a.view.alg b.view.alg);
  class_ids = false;
}

-- the columns that differ if the items are matched as the first argument says
abbrev pub columns_of : Identity → Report → SettingData → SettingData → Bool → ItemData → ItemData → Columns
columns_of Ids report s p same a b = columns_by_ids report a b same
columns_of (Names by) report s p same a b = columns_by_names report s p a b
