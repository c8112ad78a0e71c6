use Rattle.std.proofs.Common.{◌≡◌, ◌++◌, take, map}
use Rattle.std.specs.Prelude.{flat_map}
use Rattle.crush_edits.specs.SettingSeen.{rule_data, step_data}
use Rattle.crush_since.specs.Classes.{entry_class, step_class, rule_classes, reweighed_line, untaken_line}
use Rattle.crush_since.specs.CollectedSeen.{item_data, use_data}
use Rattle.crush_since.proofs.since.classes.push_steps.Given as goal

abbrev pub invariant-loop-step : goal.invariant-loop-step
invariant-loop-step l = map item_data l.items.items ≡ map item_data l.fn.items.items ++ flat_map step_class (map step_data (take l.step-index l.steps))
