use Rattle.std.proofs.Common.{◌≡◌, ap, sym, subst, ◌∙◌}
use Rattle.std.specs.Prelude.{None}
use Rattle.crush_builder.specs.Rules.{complete_bucket_named, word_fault}
use Rattle.crush_builder.specs.Pending.{pending_data}
use Rattle.crush_builder.specs.Built.{Draft}
use Rattle.crush_builder.specs.Building.{BuilderData, IsDraft, own_draft}
use Rattle.crush_builder.proofs.Drafts.{own_is_draft}
use Rattle.crush_builder.proofs.RuleSteps.{taken_named}
use Rattle.crush_builder.proofs.builder.MapBuilder.kept_step.Goals as goal

pub unreachable-requires : goal.unreachable-requires
unreachable-requires g c =
    let b : BuilderData = record { setting = c.self.inside.setting; forest = c.self.inside.hierarchy; pending = pending_data c.self.inside.pending; adjusted = c.self.inside.adjusted } in
    let d : Draft = own_draft b in
    let at : IsDraft c.args.self.now d = subst (λ (x : BuilderData). IsDraft x d) c.self.view_is (own_is_draft b c.recall_invariant.ensures c.self.invariant) in
    let none : complete_bucket_named d c.as_bytes.result.now ≡ None = sym (c.bucket_named.ensures d at) ∙ c.in_default.is in
    taken_named d c.in-Take.name c.in-Take.class (ap (complete_bucket_named d) (sym c.as_bytes.ensures.value) ∙ none) (sym (ap (word_fault d) c.in-Take.is) ∙ c.requires.clear d at)
