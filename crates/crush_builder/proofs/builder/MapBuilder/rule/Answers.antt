use Rattle.std.proofs.Common.{◌≡◌, [], ◌∷◌, ◌++◌, subst, sym, ap, ◌∙◌}
use Rattle.std.specs.Prelude.{None}
use Rattle.crush_builder.specs.Rules.{rule_fault, with_rule}
use Rattle.crush_builder.specs.Pending.{pending_data}
use Rattle.crush_builder.specs.Built.{Draft}
use Rattle.crush_builder.specs.Building.{BuilderData, IsDraft, own_draft}
use Rattle.crush_builder.proofs.Drafts.{own_is_draft, draft_fits}
use Rattle.crush_builder.proofs.RuleSteps.{rule_step, rule_told_itself, never_lacking}
use Rattle.crush_builder.proofs.builder.MapBuilder.rule.Goals as goal

pub returns-in-Some-clause-refused : goal.returns-in-Some-clause-refused
returns-in-Some-clause-refused g c = λ d i. rule_told_itself d c.args.rule.now c.in-Some.fault (sym (c.rule_fault.ensures d i) ∙ c.in-Some.is)

pub returns-in-Some-clause-memory : goal.returns-in-Some-clause-memory
returns-in-Some-clause-memory g c = λ lacks.
    let b : BuilderData = record { setting = c.self.inside.setting; forest = c.self.inside.hierarchy; pending = pending_data c.self.inside.pending; adjusted = c.self.inside.adjusted } in
    let d : Draft = own_draft b in
    let at : IsDraft c.args.self.now d = subst (λ (x : BuilderData). IsDraft x d) c.self.view_is (own_is_draft b c.recall_invariant.ensures c.self.invariant) in
    absurd (never_lacking d c.args.rule.now c.in-Some.fault (sym (c.rule_fault.ensures d at) ∙ c.in-Some.is) lacks)

pub invariant_of-self-2 : goal.invariant_of-self-2
invariant_of-self-2 g c =
    let b : BuilderData = record { setting = c.self.inside.setting; forest = c.self.inside.hierarchy; pending = pending_data c.self.inside.pending; adjusted = c.self.inside.adjusted } in
    let d : Draft = own_draft b in
    let own : IsDraft b d = own_is_draft b c.recall_invariant.ensures c.self.invariant in
    let at : IsDraft c.args.self.now d = subst (λ (x : BuilderData). IsDraft x d) c.self.view_is own in
    let rules = c.in_ok-push_rule.ensures.ok ∙ (λ i. record c.self.inside.setting { rules = c.self.inside.setting.rules ++ c.in_ok-kept.ensures d at i ∷ [] }) in
    let clear : rule_fault d c.args.rule.now ≡ None = sym (c.in_default.ensures d at) in
    draft_fits (record b { setting = c.push_rule.new.self }) (with_rule d c.args.rule.now)
    (rule_step b c.push_rule.new.self d c.args.rule.now own (ap (λ (x : BuilderData). x.pending) c.self.view_is ∙ c.requires.idle) rules c.requires.form clear)

pub returns-clause-clear : goal.returns-clause-clear
returns-clause-clear g c = λ d i. sym (c.in_default.ensures d i)

pub returns-clause-ok : goal.returns-clause-ok
returns-clause-ok g c = λ d i.
    let b : BuilderData = record { setting = c.self.inside.setting; forest = c.self.inside.hierarchy; pending = pending_data c.self.inside.pending; adjusted = c.self.inside.adjusted } in
    let at : IsDraft b d = subst (λ (x : BuilderData). IsDraft x d) (sym c.self.view_is) i in
    let rules = c.in_ok-push_rule.ensures.ok ∙ (λ j. record c.self.inside.setting { rules = c.self.inside.setting.rules ++ c.in_ok-kept.ensures d i j ∷ [] }) in
    let clear : rule_fault d c.args.rule.now ≡ None = sym (c.in_default.ensures d i) in
    rule_step b c.push_rule.new.self d c.args.rule.now at (ap (λ (x : BuilderData). x.pending) c.self.view_is ∙ c.requires.idle) rules c.requires.form clear
