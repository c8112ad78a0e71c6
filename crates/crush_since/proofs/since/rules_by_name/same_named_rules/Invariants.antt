use Rattle.std.proofs.Common.{◌≡◌, true, take, List}
use Rattle.crush_edits.specs.SettingSeen.{rule_data}
use Rattle.crush_model.specs.Stands.{Stands}
use Rattle.crush_model.specs.Table.{Row}
use Rattle.crush_since.specs.RulesByName.{named_rule}
use Rattle.crush_compare.proofs.PairLaws.{same_seen}
use Rattle.crush_since.proofs.since.rules_by_name.same_named_rules.Given as goal

-- the two lists have the same rules at every index visited so far
abbrev pub invariant-loop-index : goal.invariant-loop-index
invariant-loop-index g l =
    (t u : List Row) → Stands l.old.forest t → Stands l.new.forest u → same_seen (named_rule t u) rule_data rule_data (take l.index l.before) (take l.index l.after) ≡ true
