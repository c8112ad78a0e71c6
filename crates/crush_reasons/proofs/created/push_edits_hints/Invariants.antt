use Rattle.std.proofs.Common.{◌≡◌, List, drop}
use Rattle.crush_model.specs.Stands.{Stands}
use Rattle.crush_model.specs.Table.{Row}
use Rattle.crush_reasons.proofs.Creating.{HintsLeft}
use Rattle.crush_reasons.proofs.created.push_edits_hints.Given as goal

abbrev pub invariant-loop-edit : goal.invariant-loop-edit
invariant-loop-edit l = record {
  setting : l.map.setting ≡ l.fn.map.setting;
  left : (t : List Row) → Stands l.fn.map.forest t → HintsLeft l.fn.map.setting t l.edits l.fn.text.items l.text.items l.map (drop l.edit-index l.edits);
}
