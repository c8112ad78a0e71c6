use Rattle.std.proofs.Common.{◌≡◌, ◌++◌, take, map}
use Rattle.std.specs.Prelude.{flat_map}
use Rattle.crush_since.specs.Rules.{rule_change_line}
use Rattle.crush_since.specs.RulesSeen.{rule_change_data}
use Rattle.crush_since.proofs.since.rule_lines.push_rule_lines.Given as goal

abbrev pub invariant-loop-index : goal.invariant-loop-index
invariant-loop-index l = l.out.items ≡ l.fn.out.items ++ flat_map rule_change_line (map rule_change_data (take l.index l.changes))
