-- A map as contracts see it, the invariant of a map, and the setting and table that a map represents.
use Rattle.std.specs.Prelude.{◌≡◌, List}
use Rattle.crush_model.specs.Table.{Row}
use Rattle.crush_model.specs.Forest.{ForestData, rows_of}
use Rattle.crush_model.specs.Stands.{Stands}
use Rattle.crush_edits.specs.Setting.{SettingData}
use Rattle.crush_edits.specs.Fits.{Fits}

-- a map: its setting (types, tunables and rules), and the forest of its devices and buckets
pub record MapData : Type 0 where
  pub setting : SettingData
  pub forest : ForestData

-- the invariant of a map, in addition to the invariant of its forest: the setting fits the rows. This means that the setting is valid by itself, that it declares the type of each bucket, and that each bucket that a rule takes exists
abbrev pub MapFits : MapData → Type 0
MapFits m = Fits m.setting (rows_of m.forest)

-- the map has this setting, and its forest represents this table
pub record MapStands (m : MapData) (s : SettingData) (t : List Row) : Type 0 where
  pub setting : m.setting ≡ s
  pub forest : Stands m.forest t
