use Rattle.std.proofs.Common.{ap, sym, subst, ◌∙◌}
use Rattle.std.specs.Prelude.{map}
use Rattle.crush_model.specs.Table.{member}
use Rattle.crush_edits.specs.RulesTold.{AreTakenBy, ComeAsTaken}
use Rattle.crush_edits.specs.Setting.{taken_by}
use Rattle.crush_edits.specs.SettingSeen.{rule_data}
use Rattle.crush_edits.proofs.SettingLaws.{map-push}
use Rattle.crush_edits.proofs.TakenBuckets.{taken_pushed, taken_copied}
use Rattle.crush_edits.proofs.setting.rules.Rules.push.Goals as goal

pub invariant_of-self-2 : goal.invariant_of-self-2
invariant_of-self-2 c =
    let seen = ap (map rule_data) c.in_ok-push.ensures.items ∙ map-push rule_data c.self.inside.rules.items c.args.rule in
    let taken : AreTakenBy (map rule_data c.self.inside.rules.items) c.in_ok-taken.taken = λ b. taken_copied c.self.inside.taken c.in_ok-taken.taken c.in_ok-taken.ensures.cases b ∙ c.self.invariant b in
    let come : ComeAsTaken c.args.rule.steps.items c.in_ok-taken.taken c.take_all.new.taken = subst (λ xs. ComeAsTaken xs c.in_ok-taken.taken c.take_all.new.taken) c.deref.ensures.value c.in_ok-take_all.ensures in
    λ b. taken_pushed c.in_ok-taken.taken c.take_all.new.taken (map rule_data c.self.inside.rules.items) c.args.rule taken come b ∙ ap (λ rs. member b (taken_by rs)) (sym seen)
