-- Encodings of incomplete buckets and of builders as tuples, from which the buckets and the builders can be decoded again.
use Rattle.std.specs.Prelude.{◌≡◌, ℕ, List, [], ◌==◌, if◌then◌else◌, refl}
use Rattle.std.specs.Coded.{Coded, code_by, coded×, coded_ℕ, coded_list}
use Rattle.crush_model.specs.Items.{ShadowData}
use Rattle.crush_model.specs.Forest.{ForestData}
use Rattle.crush_model.specs.Codes.{coded_shadow, coded_forest}
use Rattle.crush_edits.specs.Setting.{SettingData}
use Rattle.crush_edits.specs.Codes.{coded_setting}
use Rattle.crush_builder.specs.Built.{Pending, nothing, begun, numbered, filling}
use Rattle.crush_builder.specs.Building.{BuilderData}

-- the code of an incomplete bucket: its variant from 0 to 3, its type's number, its id, its name and its class ids; a part that the variant doesn't have is 0 or an empty list
abbrev pub Parts : Type 0
Parts = ℕ × (ℕ × (ℕ × (List ℕ × List ShadowData)))

-- encodes an incomplete bucket
abbrev pub pending_parts : Pending → Parts
pending_parts nothing = (0, (0, (0, ([], []))))
pending_parts (begun kind name) = (1, (kind, (0, (name, []))))
pending_parts (numbered kind name b class_ids) = (2, (kind, (b, (name, class_ids))))
pending_parts (filling b) = (3, (0, (b, ([], []))))

-- decodes an incomplete bucket
pub parts_pending : Parts → Pending
parts_pending p = if p.0 == 0 then nothing else (if p.0 == 1 then begun p.1.0 p.1.1.1.0 else (if p.0 == 2 then numbered p.1.0 p.1.1.1.0 p.1.1.0 p.1.1.1.1 else filling p.1.1.0))

-- decoding undoes encoding
pub parts_pending-pending_parts : (p : Pending) → parts_pending (pending_parts p) ≡ p
unfolding parts_pending
parts_pending-pending_parts nothing = refl
parts_pending-pending_parts (begun kind name) = refl
parts_pending-pending_parts (numbered kind name b class_ids) = refl
parts_pending-pending_parts (filling b) = refl

abbrev pub coded_pending : Coded Pending
coded_pending = code_by Parts (coded× coded_ℕ (coded× coded_ℕ (coded× coded_ℕ (coded× (coded_list coded_ℕ) (coded_list coded_shadow))))) pending_parts parts_pending parts_pending-pending_parts

-- a builder is encoded as the tuple of its fields
abbrev pub coded_builder : Coded BuilderData
coded_builder =
    code_by (SettingData × (ForestData × (Pending × ℕ))) (coded× coded_setting (coded× coded_forest (coded× coded_pending coded_ℕ)))
    (λ b. (b.setting, (b.forest, (b.pending, b.adjusted)))) (λ p. record { setting = p.0; forest = p.1.0; pending = p.1.1.0; adjusted = p.1.1.1 }) (λ _. refl)
