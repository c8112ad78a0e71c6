use Rattle.std.proofs.Common.{◌≡◌, ◌++◌, take, map}
use Rattle.std.specs.Prelude.{flat_map}
use Rattle.crush_since.specs.Classes.{change_of_class}
use Rattle.crush_since.specs.ClassesSeen.{class_change_data}
use Rattle.crush_since.specs.CollectedSeen.{use_data}
use Rattle.crush_since.proofs.since.classes.push_changes.Given as goal

abbrev pub invariant-loop-index : goal.invariant-loop-index
invariant-loop-index l = map class_change_data l.changes.items ≡ map class_change_data l.fn.changes.items ++ flat_map change_of_class (map use_data (take l.index l.uses))
