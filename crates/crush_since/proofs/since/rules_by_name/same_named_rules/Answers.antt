use Rattle.std.proofs.Common.{◌∙◌, sym, arith}
use Rattle.crush_edits.specs.SettingSeen.{rule_data}
use Rattle.crush_since.specs.RulesByName.{named_rule}
use Rattle.crush_compare.proofs.PairLaws.{pair_differs, pair_more}
use Rattle.crush_since.proofs.since.rules_by_name.same_named_rules.Goals as goal

pub returns-then-not-same_named_rule : goal.returns-then-not-same_named_rule
returns-then-not-same_named_rule g c = λ t u a b.
    sym (pair_differs (named_rule t u) rule_data rule_data c.loop-index.index c.args.before.now c.args.after.now c.index-before-index.result c.index-after-index.result c.loop-index-test.true (omega (arith, c.loop-index-test.true, c.if-before-after.false))
    c.index-before-index.is c.index-after-index.is (sym (c.same_named_rule.ensures t u a b) ∙ c.if-not-same_named_rule.true))

pub loop-index-preserved : goal.loop-index-preserved
loop-index-preserved g c = λ t u a b.
    pair_more (named_rule t u) rule_data rule_data c.loop-index.index c.args.before.now c.args.after.now c.index-before-index.result c.index-after-index.result c.loop-index-test.true (omega (arith, c.loop-index-test.true, c.if-before-after.false))
    c.index-before-index.is c.index-after-index.is (c.loop-index.invariant t u a b) (sym (c.same_named_rule.ensures t u a b) ∙ c.if-not-same_named_rule.false)
