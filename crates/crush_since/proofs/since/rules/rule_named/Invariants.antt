use Rattle.std.proofs.Common.{◌≡◌, None, take, map}
use Rattle.crush_edits.specs.SettingSeen.{rule_data}
use Rattle.crush_since.specs.Rules.{rule_named}
use Rattle.crush_since.proofs.since.rules.rule_named.Given as goal

-- no rule visited so far has the name
abbrev pub invariant-loop-rule : goal.invariant-loop-rule
invariant-loop-rule l = rule_named l.name (map rule_data (take l.rule-index l.rules)) ≡ None
