use Rattle.std.proofs.Common.{List, take}
use Rattle.crush_model.specs.Table.{Row}
use Rattle.crush_edits.specs.Setting.{SettingData}
use Rattle.crush_map.specs.MapData.{MapStands}
use Rattle.crush_conflicts.specs.Alone.{table_of_operator}
use Rattle.crush_conflicts.proofs.alone.map_alone.Given as goal

-- the map after the calls of the entries so far
abbrev pub invariant-loop-entry : goal.invariant-loop-entry
invariant-loop-entry g l = (s : SettingData) (t : List Row) → MapStands l.map s t → MapStands l.alone s (table_of_operator s t (take l.entry-index l.entries) l.operator)
