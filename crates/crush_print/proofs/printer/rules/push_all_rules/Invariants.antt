use Rattle.std.proofs.Common.{◌≡◌, ◌++◌, List, take, map}
use Rattle.std.specs.Prelude.{flat_map}
use Rattle.crush_model.specs.Stands.{Stands}
use Rattle.crush_model.specs.Table.{Row}
use Rattle.crush_edits.specs.SettingSeen.{rule_data}
use Rattle.crush_print.specs.RuleLines.{rule_lines}
use Rattle.crush_print.proofs.printer.rules.push_all_rules.Given as goal

abbrev pub invariant-loop-rule : goal.invariant-loop-rule
invariant-loop-rule g l = (t : List Row) → Stands l.from.forest t → l.out.items ≡ l.fn.out.items ++ flat_map (rule_lines t) (map rule_data (take l.rule-index l.rules))
