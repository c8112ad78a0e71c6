-- What has been built so far of the map that a text describes (a draft), and how each statement, or part of one, changes the draft.
use Rattle.std.specs.Prelude.{ℕ, ◌+◌, List, [], ◌∷◌, ◌++◌, Option, None}
use Rattle.crush_units.specs.declared.id.ItemId.{ItemId}
use Rattle.crush_units.specs.declared.alg.Alg.{Alg}
use Rattle.crush_model.specs.Items.{ShadowData}
use Rattle.crush_model.specs.Table.{Row}
use Rattle.crush_model.specs.ItemRows.{device_row, bucket_row}
use Rattle.crush_edits.specs.Setting.{RuleData, SettingData}
use Rattle.crush_map.specs.WrittenItems.{put_below, weight_or_one, adjustment}

-- the incomplete bucket, if there is one. `begun` has its type and name, and `numbered` also has its id and class ids. `filling` has the id of a bucket that is already in the table and receives items
pub data Pending : Type 0 where
  nothing : Pending
  begun : ℕ → List ℕ → Pending
  numbered : ℕ → List ℕ → ℕ → List ShadowData → Pending
  filling : ℕ → Pending

-- what has been built so far: the setting, the table, the incomplete bucket, and how often an item that is a bucket was written with another weight than its sum (the sum of the weights of the devices below the bucket)
pub record Draft : Type 0 where
  pub setting : SettingData
  pub table : List Row
  pub pending : Pending
  pub adjusted : ℕ

-- THE STEPS
-- the draft before the first statement: no types, tunables, rules or items
abbrev pub empty_draft : Draft
empty_draft = record { setting = record { kinds = []; tunables = []; rules = [] }; table = []; pending = nothing; adjusted = 0 }

-- the draft after a type is added at the end of the types
abbrev pub with_kind : Draft → ℕ → List ℕ → Draft
with_kind d number name = record d { setting = record d.setting { kinds = d.setting.kinds ++ record { number = number; name = name } ∷ [] } }

-- the draft after a tunable is added at the end of the tunables
abbrev pub with_tunable : Draft → List ℕ → ℕ → Draft
with_tunable d name value = record d { setting = record d.setting { tunables = d.setting.tunables ++ record { name = name; value = value } ∷ [] } }

-- the draft after a rule, in the form in which a map keeps it, is added at the end of the rules
abbrev pub add_rule : Draft → RuleData → Draft
add_rule d r = record d { setting = record d.setting { rules = d.setting.rules ++ r ∷ [] } }

-- the draft after a device is added: its row is appended, without a parent and with the weight 0
abbrev pub with_device : Draft → ℕ → List ℕ → Option (List ℕ) → Draft
with_device d id name class = record d { table = d.table ++ device_row None (record { id = id; name = name; weight = 0; class = class }) ∷ [] }

-- the draft after a bucket has begun; its type's number and its name are known
abbrev pub begun_bucket : Draft → ℕ → List ℕ → Draft
begun_bucket d kind name = record d { pending = begun kind name }

-- the incomplete bucket after it gets its id; a bucket that already has an id is unchanged
abbrev pub pending_with_id : Pending → ℕ → Pending
pending_with_id nothing b = nothing
pending_with_id (begun kind name) b = numbered kind name b []
pending_with_id (numbered kind name a class_ids) b = numbered kind name a class_ids
pending_with_id (filling a) b = filling a

-- the draft after the incomplete bucket gets its id
abbrev pub with_id : Draft → ℕ → Draft
with_id d b = record d { pending = pending_with_id d.pending b }

-- the incomplete bucket after it gets one more class id, at the end of its class ids
abbrev pub pending_with_class_id : Pending → ShadowData → Pending
pending_with_class_id nothing c = nothing
pending_with_class_id (begun kind name) c = begun kind name
pending_with_class_id (numbered kind name b class_ids) c = numbered kind name b (class_ids ++ c ∷ [])
pending_with_class_id (filling b) c = filling b

-- the draft after the incomplete bucket gets one more class id: the id b for this class
abbrev pub with_class_id : Draft → ℕ → List ℕ → Draft
with_class_id d b class = record d { pending = pending_with_class_id d.pending (record { id = b; class = class }) }

-- the row that is added to the table when the incomplete bucket gets its algorithm; the bucket is a root
abbrev pub pending_row : Pending → Alg → List Row
pending_row nothing alg = []
pending_row (begun kind name) alg = []
pending_row (numbered kind name b class_ids) alg = bucket_row None (record { id = b; kind = kind; name = name; alg = alg; class_ids = class_ids }) ∷ []
pending_row (filling b) alg = []

-- the incomplete bucket after it gets its algorithm: it is being filled from then on
abbrev pub pending_with_alg : Pending → Pending
pending_with_alg nothing = nothing
pending_with_alg (begun kind name) = begun kind name
pending_with_alg (numbered kind name b class_ids) = filling b
pending_with_alg (filling b) = filling b

-- the draft after the incomplete bucket gets its algorithm: its row is appended to the table
abbrev pub with_alg : Draft → Alg → Draft
with_alg d alg = record d { table = d.table ++ pending_row d.pending alg; pending = pending_with_alg d.pending }

-- the table after an item is put at the end of the bucket that is being filled; a device gets the weight w
abbrev pub table_with_item : Pending → ItemId → ℕ → List Row → List Row
table_with_item nothing i w t = t
table_with_item (begun kind name) i w t = t
table_with_item (numbered kind name b class_ids) i w t = t
table_with_item (filling b) i w t = put_below b i w t

-- the draft after an item is put into the bucket that is being filled; `adjusted` increases by 1 if the item is a bucket and its written weight isn't the sum of the weights of the devices below it
abbrev pub with_next_item : Draft → ItemId → Option ℕ → Draft
with_next_item d i w = record d { table = table_with_item d.pending i (weight_or_one w) d.table; adjusted = d.adjusted + adjustment d.table i w }

-- the draft after the closing brace: no bucket is incomplete
abbrev pub with_end : Draft → Draft
with_end d = record d { pending = nothing }
