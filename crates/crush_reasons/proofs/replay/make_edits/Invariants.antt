use Rattle.std.proofs.Common.{◌≡◌, List, take}
use Rattle.crush_model.specs.Stands.{Stands}
use Rattle.crush_model.specs.Table.{Row}
use Rattle.crush_reasons.specs.Replay.{table_after_edits}
use Rattle.crush_reasons.proofs.replay.make_edits.Given as goal

abbrev pub invariant-loop-edit : goal.invariant-loop-edit
invariant-loop-edit l = record {
  setting : l.map.setting ≡ l.fn.map.setting;
  stands : (t : List Row) → Stands l.fn.map.forest t → Stands l.map.forest (table_after_edits l.fn.map.setting t (take l.edit-index l.edits));
}
