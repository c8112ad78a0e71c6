use Rattle.std.proofs.Common.{◌≡◌, ◌++◌, take, map}
use Rattle.std.specs.Prelude.{flat_map}
use Rattle.crush_since.specs.Classes.{reweighed_line}
use Rattle.crush_since.specs.ClassesSeen.{class_change_data}
use Rattle.crush_since.proofs.since.class_lines.push_reweighed.Given as goal

abbrev pub invariant-loop-index : goal.invariant-loop-index
invariant-loop-index l = l.out.items ≡ l.fn.out.items ++ flat_map reweighed_line (map class_change_data (take l.index l.changes))
