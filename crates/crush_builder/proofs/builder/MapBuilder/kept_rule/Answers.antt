use Rattle.std.proofs.Common.{◌≡◌, List, sym, subst}
use Rattle.std.specs.Prelude.{None, All}
use Rattle.crush_edits.specs.declared.rule.Step.{Step}
use Rattle.crush_builder.specs.Rules.{word_fault}
use Rattle.crush_builder.proofs.RuleSteps.{rule_clear}
use Rattle.crush_builder.proofs.builder.MapBuilder.kept_rule.Goals as goal

pub kept_steps-requires : goal.kept_steps-requires
kept_steps-requires g c = record {
  clear = λ d i. subst (λ (xs : List Step). All (λ x. word_fault d x ≡ None) xs) (sym c.deref.ensures.value) (rule_clear d c.args.rule.now (c.requires.clear d i)).words;
}
