use Rattle.std.proofs.Common.{List, take}
use Rattle.crush_model.specs.Table.{Row}
use Rattle.crush_edits.specs.Setting.{SettingData}
use Rattle.crush_map.specs.MapData.{MapStands}
use Rattle.crush_history.specs.HistoryText.{names_of}
use Rattle.crush_history.specs.Script.{scripts_data}
use Rattle.crush_conflicts.specs.Conflicts.{operators_from}
use Rattle.crush_conflicts.specs.MapsSeen.{IsMapAlone}
use Rattle.crush_conflicts.specs.Pairwise.{Pairwise}
use Rattle.crush_conflicts.proofs.conflicts.maps_alone.Given as goal

-- the maps of the scripts so far
abbrev pub invariant-loop-operator : goal.invariant-loop-operator
invariant-loop-operator g l =
    (s : SettingData) (t : List Row) → MapStands l.before s t → Pairwise IsMapAlone (operators_from s t l.entries 0 (names_of (scripts_data (take l.operator l.scripts)))) l.maps.items
