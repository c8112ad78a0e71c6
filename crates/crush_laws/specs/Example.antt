-- A SMALL DOCUMENT, whose setting and table were worked out by hand. The document has two devices. It has a host that lists one of these devices with a weight, and the other one without a weight. It has a root that lists the host with a weight that isn't the sum of the weights of the host's devices. It also has a rule with each kind of step.
use Rattle.std.specs.Prelude.{◌≡◌, ℕ, pos, neg_ℤ, List, [], ◌∷◌, true, false, Some, None, codes}
use Rattle.crush_units.specs.declared.alg.Alg.TheVariants.{Straw2}
use Rattle.crush_units.specs.declared.id.ItemId.TheVariants.{Device, Bucket}
use Rattle.crush_model.specs.Table.{Row}
use Rattle.crush_edits.specs.Setting.{SettingData, take, choose, set, emit}
use Rattle.crush_laws.specs.Document.{Document, takes, chooses, sets, emits, tunable, kind, device, bucket, rule}
use Rattle.crush_laws.specs.Spells.{Spells}
use Rattle.crush_laws.specs.Meaning.{setting_of, table_of, adjusted}

-- the words of the example's text: the first lines, then the host, the root and the rule
abbrev pub example_words : List (List ℕ)
example_words =
    codes "tunable" ∷ codes "tries" ∷ codes "50" ∷ codes "type" ∷ codes "1" ∷ codes "host" ∷ codes "type" ∷ codes "11" ∷ codes "root"
    ∷ codes "device" ∷ codes "0" ∷ codes "osd.0" ∷ codes "class" ∷ codes "ssd" ∷ codes "device" ∷ codes "01" ∷ codes "osd.1"
    ∷ codes "host" ∷ codes "h1" ∷ codes "{" ∷ codes "id" ∷ codes "-2" ∷ codes "id" ∷ codes "-3" ∷ codes "class" ∷ codes "ssd" ∷ codes "alg" ∷ codes "straw2" ∷ codes "hash" ∷ codes "0"
    ∷ codes "item" ∷ codes "osd.1" ∷ codes "weight" ∷ codes "0.5" ∷ codes "item" ∷ codes "osd.0" ∷ codes "}"
    ∷ codes "root" ∷ codes "default" ∷ codes "{" ∷ codes "id" ∷ codes "-1" ∷ codes "alg" ∷ codes "straw2" ∷ codes "item" ∷ codes "h1" ∷ codes "weight" ∷ codes "2.0" ∷ codes "}"
    ∷ codes "rule" ∷ codes "data" ∷ codes "{" ∷ codes "ruleset" ∷ codes "3" ∷ codes "type" ∷ codes "replicated" ∷ codes "max_size" ∷ codes "10"
    ∷ codes "step" ∷ codes "set_chooseleaf_tries" ∷ codes "5" ∷ codes "step" ∷ codes "take" ∷ codes "default" ∷ codes "class" ∷ codes "ssd"
    ∷ codes "step" ∷ codes "choose" ∷ codes "indep" ∷ codes "-1" ∷ codes "type" ∷ codes "host" ∷ codes "step" ∷ codes "emit"
    ∷ codes "step" ∷ codes "take" ∷ codes "h1" ∷ codes "step" ∷ codes "chooseleaf" ∷ codes "firstn" ∷ codes "0" ∷ codes "type" ∷ codes "osd" ∷ codes "}" ∷ []

-- the document that these words spell
abbrev pub example : Document
example = record {
  first = tunable (codes "tries") 50 ∷ kind 1 (codes "host") ∷ kind 11 (codes "root") ∷ device 0 (codes "osd.0") (Some (codes "ssd")) ∷ device 1 (codes "osd.1") None ∷ [];
  second =
      bucket (record {
        kind = codes "host";
        name = codes "h1";
        id = 2;
        class_ids = record { id = 3; class = codes "ssd" } ∷ [];
        alg = Straw2;
        items = record { name = codes "osd.1"; weight = Some 32768 } ∷ record { name = codes "osd.0"; weight = None } ∷ [];
      })
      ∷ bucket (record { kind = codes "root"; name = codes "default"; id = 1; class_ids = []; alg = Straw2; items = record { name = codes "h1"; weight = Some 131072 } ∷ [] })
      ∷ rule (record {
        name = codes "data";
        id = 3;
        kind = codes "replicated";
        min_size = None;
        max_size = Some 10;
        steps = sets (codes "set_chooseleaf_tries") 5 ∷ takes (codes "default") (Some (codes "ssd")) ∷ chooses false false (neg_ℤ (pos 1)) (codes "host") ∷ emits
            ∷ takes (codes "h1") None ∷ chooses true true (pos 0) (codes "osd") ∷ [];
      })
      ∷ [];
}

-- the setting of the document
abbrev pub example_setting : SettingData
example_setting = record {
  kinds = record { number = 1; name = codes "host" } ∷ record { number = 11; name = codes "root" } ∷ [];
  tunables = record { name = codes "tries"; value = 50 } ∷ [];
  rules = record {
    name = codes "data";
    id = 3;
    kind = codes "replicated";
    min_size = None;
    max_size = Some 10;
    steps = set (codes "set_chooseleaf_tries") 5 ∷ take 1 (Some (codes "ssd")) ∷ choose false false (neg_ℤ (pos 1)) (codes "host") ∷ emit ∷ take 2 None ∷ choose true true (pos 0) (codes "osd") ∷ [];
  } ∷ [];
}

-- the table of the document. The root lists the host, so the host's row comes after the root's row. The rows of the devices are in the order in which the host lists the devices
abbrev pub example_table : List Row
example_table =
    record { id = Device 1; kind = 0; name = codes "osd.1"; parent = Some 2; weight = 32768; class = None; alg = None; class_ids = [] }
    ∷ record { id = Device 0; kind = 0; name = codes "osd.0"; parent = Some 2; weight = 65536; class = Some (codes "ssd"); alg = None; class_ids = [] }
    ∷ record { id = Bucket 1; kind = 11; name = codes "default"; parent = None; weight = 0; class = None; alg = Some Straw2; class_ids = [] }
    ∷ record { id = Bucket 2; kind = 1; name = codes "h1"; parent = Some 1; weight = 0; class = None; alg = Some Straw2; class_ids = record { id = 3; class = codes "ssd" } ∷ [] }
    ∷ []

-- the words spell the document; the document has this setting and this table, and one weight of the document is adjusted
pub record ExampleIsRight : Type 0 where
  pub spelled : Spells example_words example
  pub setting : setting_of example ≡ example_setting
  pub table : table_of example ≡ example_table
  pub count : adjusted example ≡ 1
