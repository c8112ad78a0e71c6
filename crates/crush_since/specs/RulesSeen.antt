-- How a `RuleChange` of the code is seen as plain data.
use Rattle.std.specs.Option.{option_map}
use Rattle.crush_since.specs.Rules.{RuleChangeData, rule_new, rule_differs, rule_gone, rules_in_other_order, rule_takes_nothing}
use Rattle.crush_since.specs.declared.since.rules.RuleChange.{RuleChange}
use Rattle.crush_since.specs.declared.since.rules.RuleChange.TheVariants.{New, Differs, Gone, OtherOrder, TakesNothing}

abbrev pub rule_change_data : RuleChange → RuleChangeData
rule_change_data (New name) = rule_new name.now
rule_change_data (Differs name) = rule_differs name.now
rule_change_data (Gone name) = rule_gone name.now
rule_change_data OtherOrder = rules_in_other_order
rule_change_data (TakesNothing rule bucket class) = rule_takes_nothing rule.now bucket.now (option_map (λ c. c.now) class)
