-- When two maps are alike if their items are matched by names, and the law that no difference remains between two maps if and only if they are alike.
use Rattle.std.specs.Prelude.{◌≡◌, ◌↔◌, ℕ, ◌+◌, ◌≤◌, true, List, [], Option, None, Some, option_and_then}
use Rattle.std.specs.Cmp.Lexicographic.{pointwise}
use Rattle.crush_units.specs.declared.id.ItemId.{ItemId}
use Rattle.crush_units.specs.declared.id.ItemId.TheVariants.{Device, Bucket}
use Rattle.crush_model.specs.Lawful.{Lawful}
use Rattle.crush_model.specs.Table.{Row, name_of, row_named}
use Rattle.crush_edits.specs.Setting.{kind_name}
use Rattle.crush_since.specs.ItemWords.{type_word}
use Rattle.crush_since.specs.Since.{PlainMap}
use Rattle.crush_since.specs.RulesByName.{named_rule}
use Rattle.crush_since.specs.Stays.{stays}

-- two items of the same name, which have these ids, count as the same item. This is so if they are devices with equal ids, or if both are buckets, whatever their ids are
abbrev pub AreOne : ItemId → ItemId → Type 0
AreOne (Device d) (Device e) = d ≡ e
AreOne (Bucket b) (Bucket c) = Unit {0}
AreOne i j = ⊥

-- the name of the parent of a row's item; none if the item has no parent
abbrev pub place_of : List Row → Row → Option (List ℕ)
place_of t r = option_and_then (λ p. name_of t (Bucket p)) r.parent

-- ROWS ALIKE: the two rows are of the same item. They have the same type, place, class and algorithm, and weights that are at most one unit (1/65536 TiB) apart. The row of a bucket has the weight 0, so the condition on weights matters only for devices
pub record AreAlike (old new : PlainMap) (x y : Row) : Type 0 where
  pub one : AreOne x.id y.id
  pub kind : type_word old.setting x.id x.kind ≡ type_word new.setting y.id y.kind
  pub place : place_of old.table x ≡ place_of new.table y
  pub no_more : x.weight ≤ y.weight + 1
  pub no_less : y.weight ≤ x.weight + 1
  pub class : x.class ≡ y.class
  pub alg : x.alg ≡ y.alg

-- for one name: either neither map has a row with this name, or each map has a row with this name and the two rows are alike
abbrev pub HaveAlike : PlainMap → PlainMap → Option Row → Option Row → Type 0
HaveAlike old new None None = Unit {0}
HaveAlike old new (Some x) (Some y) = AreAlike old new x y
HaveAlike old new x y = ⊥

-- SETTINGS THAT AGREE: both settings have the same tunables in the same order, each type number has the same name in both settings, and both settings have the same rules in the same order. The buckets that rules take are compared by their names
pub record SettingsAgree (old new : PlainMap) : Type 0 where
  pub tunables : old.setting.tunables ≡ new.setting.tunables
  pub kinds : (n : ℕ) → kind_name old.setting n ≡ kind_name new.setting n
  pub rules : pointwise (named_rule old.table new.table) old.setting.rules new.setting.rules ≡ true

-- ALIKE BY NAMES: the settings of the maps agree. For each name, either neither map has a row with this name, or the two rows with this name are alike
pub record AreAlikeByNames (old new : PlainMap) : Type 0 where
  pub items : (n : List ℕ) → HaveAlike old new (row_named old.table n) (row_named new.table n)
  pub settings : SettingsAgree old new

-- NOTHING STAYS: if the tables of two maps are lawful, no difference remains between the maps if and only if they are alike by names
abbrev pub NothingStaysWhereAlike : Type 0
NothingStaysWhereAlike = (old new : PlainMap) → Lawful old.table → Lawful new.table → (stays old new ≡ []) ↔ AreAlikeByNames old new
