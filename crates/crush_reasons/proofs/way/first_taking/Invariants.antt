use Rattle.std.proofs.Common.{◌≡◌, drop, map}
use Rattle.std.specs.Prelude.{find}
use Rattle.crush_edits.specs.SettingSeen.{rule_data}
use Rattle.crush_reasons.specs.Way.{takes_it}
use Rattle.crush_reasons.proofs.way.first_taking.Given as goal

abbrev pub invariant-loop-rule : goal.invariant-loop-rule
invariant-loop-rule l = find (takes_it l.bucket) (map rule_data l.rules) ≡ find (takes_it l.bucket) (map rule_data (drop l.rule-index l.rules))
