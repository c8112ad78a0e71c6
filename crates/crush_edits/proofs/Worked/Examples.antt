-- The example map as a table, and how the result of an edit is shown.
use Rattle.std.specs.Prelude.{ℕ, List, [], ◌∷◌, Option, Some, None, Bool, true, codes, filter, map, pos}
use Rattle.crush_units.specs.declared.id.ItemId.{ItemId}
use Rattle.crush_units.specs.declared.id.ItemId.TheVariants.{Device, Bucket}
use Rattle.crush_units.specs.declared.alg.Alg.TheVariants.{Straw2}
use Rattle.crush_units.specs.declared.limits.TheConstants.{HEAVIEST_DEVICE}
use Rattle.crush_model.specs.Table.{Row, is_bucket, kids, sum_below}
use Rattle.crush_model.specs.ItemRows.{device_row, bucket_row}
use Rattle.crush_edits.specs.declared.location.Pair.{Pair}
use Rattle.crush_edits.specs.declared.refusal.Refusal.{Refusal}
use Rattle.crush_edits.specs.declared.edit.Edit.{Edit}
use Rattle.crush_edits.specs.Setting.{KindData, RuleData, take, choose, emit, SettingData}
use Rattle.crush_edits.specs.Refusal.{refusal_number}
use Rattle.crush_edits.specs.Answer.{Answer, refused, done}
use Rattle.crush_edits.specs.Edit.{after, tests}
use Rattle.crush_edits.specs.Batch.{BatchAnswer, batch_refused, batch_done}

abbrev pub a_device : ℕ → List ℕ → Option ℕ → ℕ → Row
a_device id name parent weight = device_row parent (record { id = id; name = name; weight = weight; class = None })

abbrev pub a_bucket : ℕ → ℕ → List ℕ → Option ℕ → Row
a_bucket id kind name parent = bucket_row parent (record { id = id; kind = kind; name = name; alg = Straw2; class_ids = [] })

-- hosts h1 (-2) and h2 (-3) in the root default (-1), with three devices
abbrev pub example_table : List Row
example_table =
    a_device 0 (codes "osd.0") (Some 2) 65536 ∷ (a_device 1 (codes "osd.1") (Some 2) 65536 ∷ (a_device 2 (codes "osd.2") (Some 3) 32768
    ∷ (a_bucket 1 11 (codes "default") None ∷ (a_bucket 2 1 (codes "h1") (Some 1) ∷ (a_bucket 3 1 (codes "h2") (Some 1) ∷ [])))))

-- with the unplaced device osd.9
abbrev pub table_with_spare : List Row
table_with_spare = a_device 9 (codes "osd.9") None 0 ∷ example_table

-- with the class id -4 in h1
abbrev pub table_with_class : List Row
table_with_class =
    a_device 0 (codes "osd.0") (Some 2) 65536 ∷ (a_device 1 (codes "osd.1") (Some 2) 65536 ∷ (a_device 2 (codes "osd.2") (Some 3) 32768 ∷ (a_bucket 1 11 (codes "default") None
    ∷ (record (a_bucket 2 1 (codes "h1") (Some 1)) { class_ids = record { id = 4; class = codes "ssd" } ∷ [] } ∷ (a_bucket 3 1 (codes "h2") (Some 1) ∷ [])))))

-- with the class ssd for osd.0 and osd.2
abbrev pub a_classed : ℕ → List ℕ → ℕ → ℕ → List ℕ → Row
a_classed id name parent weight class = record (a_device id name (Some parent) weight) { class = Some class }

abbrev pub table_with_classes : List Row
table_with_classes =
    a_classed 0 (codes "osd.0") 2 65536 (codes "ssd") ∷ (a_device 1 (codes "osd.1") (Some 2) 65536 ∷ (a_classed 2 (codes "osd.2") 3 32768 (codes "ssd")
    ∷ (a_bucket 1 11 (codes "default") None ∷ (a_bucket 2 1 (codes "h1") (Some 1) ∷ (a_bucket 3 1 (codes "h2") (Some 1) ∷ [])))))

-- root p with host a and d1, a with d0, root q with d2 and d3, each device of the heaviest weight
abbrev pub heavy_table : List Row
heavy_table =
    a_device 0 (codes "d0") (Some 2) HEAVIEST_DEVICE ∷ (a_device 1 (codes "d1") (Some 1) HEAVIEST_DEVICE ∷ (a_device 2 (codes "d2") (Some 3) HEAVIEST_DEVICE ∷ (a_device 3 (codes "d3") (Some 3) HEAVIEST_DEVICE
    ∷ (a_bucket 2 1 (codes "a") (Some 1) ∷ (a_bucket 1 11 (codes "p") None ∷ (a_bucket 3 11 (codes "q") None ∷ []))))))

abbrev pub a_kind : ℕ → List ℕ → KindData
a_kind number name = record { number = number; name = name }

abbrev pub example_kinds : List KindData
example_kinds = a_kind 0 (codes "osd") ∷ (a_kind 1 (codes "host") ∷ (a_kind 3 (codes "rack") ∷ (a_kind 11 (codes "root") ∷ [])))

-- a rule that takes default
abbrev pub replicated_rule : RuleData
replicated_rule = record {
  name = codes "replicated_rule";
  id = 0;
  kind = codes "replicated";
  min_size = None;
  max_size = None;
  steps = take 1 None ∷ (choose true true (pos 0) (codes "host") ∷ (emit ∷ []));
}

-- the example map's setting, and that of the plain example map
abbrev pub example_setting : SettingData
example_setting = record { kinds = example_kinds; tunables = record { name = codes "choose_total_tries"; value = 50 } ∷ []; rules = replicated_rule ∷ [] }

abbrev pub plain_setting : SettingData
plain_setting = record { kinds = example_kinds; tunables = []; rules = [] }

-- pairs of a location
abbrev pub at : List ℕ → List ℕ → Pair
at kind name = record { kind = kind; name = name }

abbrev pub host : List ℕ → Pair
host name = at (codes "host") name

abbrev pub rack : List ℕ → Pair
rack name = at (codes "rack") name

abbrev pub root : List ℕ → Pair
root name = at (codes "root") name

-- a bucket as the worked lines show it: the distance of its id below 0, its name, its items, its weight
pub record Line : Type 0 where
  pub id : ℕ
  pub name : List ℕ
  pub items : List ItemId
  pub weight : ℕ

abbrev pub line : ℕ → List ℕ → List ItemId → ℕ → Line
line id name items weight = record { id = id; name = name; items = items; weight = weight }

abbrev pub distance : ItemId → ℕ
distance (Device d) = 0
distance (Bucket b) = b

abbrev pub lines : List Row → List Line
lines t = map (λ (r : Row). line (distance r.id) r.name (kids t (distance r.id)) (sum_below t (distance r.id))) (filter is_bucket t)

-- the refusal, or what the edit has done, with the buckets of the table after it
pub data Shown : Type 0 where
  no : Refusal → Shown
  yes : Bool → ℕ → List Line → Shown
  no_at : ℕ → Refusal → Shown
  all : ℕ → ℕ → ℕ → List Line → Shown

abbrev pub shown : Answer → Shown
shown (refused r) = no r
shown (done changed made t) = yes changed made (lines t)

abbrev pub shown_batch : BatchAnswer → Shown
shown_batch (batch_refused index r) = no_at index r
shown_batch (batch_done d t) = all d.edits d.changed d.made (lines t)

-- the numbers of the refusals whose tests hold
abbrev pub numbers : List (Refusal × Bool) → List ℕ
numbers ps = map (λ p. refusal_number p.0) (filter (λ p. p.1) ps)

abbrev pub holding : SettingData → List Row → Edit → List ℕ
holding s t e = numbers (tests s t e (after s t e))
