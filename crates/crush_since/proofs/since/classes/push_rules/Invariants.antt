use Rattle.std.proofs.Common.{◌≡◌, ◌++◌, take, map}
use Rattle.std.specs.Prelude.{flat_map}
use Rattle.crush_edits.specs.SettingSeen.{rule_data, step_data}
use Rattle.crush_since.specs.Classes.{entry_class, step_class, rule_classes, reweighed_line, untaken_line}
use Rattle.crush_since.specs.CollectedSeen.{item_data, use_data}
use Rattle.crush_since.proofs.since.classes.push_rules.Given as goal

abbrev pub invariant-loop-rule : goal.invariant-loop-rule
invariant-loop-rule l = map item_data l.items.items ≡ map item_data l.fn.items.items ++ rule_classes (map rule_data (take l.rule-index l.rules))
