-- An encoding of maps. Each map is encoded as a pair of a setting and a forest, from which the map can be decoded again.
use Rattle.std.specs.Prelude.{refl}
use Rattle.std.specs.Coded.{Coded, code_by, coded×}
use Rattle.crush_model.specs.Forest.{ForestData}
use Rattle.crush_model.specs.Codes.{coded_forest}
use Rattle.crush_edits.specs.Setting.{SettingData}
use Rattle.crush_edits.specs.Codes.{coded_setting}
use Rattle.crush_map.specs.MapData.{MapData}

-- a map is encoded as the pair of its two fields
abbrev pub coded_map : Coded MapData
coded_map = code_by (SettingData × ForestData) (coded× coded_setting coded_forest) (λ m. (m.setting, m.forest)) (λ p. record { setting = p.0; forest = p.1 }) (λ _. refl)
