use Rattle.std.proofs.Common.{subst, sym, ap, ◌∙◌, arith, rules}
use Rattle.crush_builder.specs.Pending.{pending_data}
use Rattle.crush_builder.specs.Building.{BuilderData, IsDraft, own_draft}
use Rattle.crush_builder.proofs.Drafts.{own_is_draft}
use Rattle.crush_builder.proofs.RowSteps.{id_fits}
use Rattle.crush_builder.proofs.builder.MapBuilder.id.Goals as goal

pub invariant_of-self : goal.invariant_of-self
invariant_of-self g c =
    let b : BuilderData = record { setting = c.self.inside.setting; forest = c.self.inside.hierarchy; pending = pending_data c.self.inside.pending; adjusted = c.self.inside.adjusted } in
    let at : IsDraft c.args.self.now (own_draft b) = subst (λ (x : BuilderData). IsDraft x (own_draft b)) c.self.view_is (own_is_draft b c.recall_invariant.ensures c.self.invariant) in
    id_fits b c.in-Begun.kind c.in-Begun.name c.args.id c.self.invariant (ap pending_data (sym c.replace.ensures.value ∙ c.in-Begun.is)) (omega arith) (omega arith) (sym (c.if-has_bucket_id.ensures (own_draft b) at))

pub returns-clause-clear : goal.returns-clause-clear
returns-clause-clear g c = search rules

pub returns-clause-ok : goal.returns-clause-ok
returns-clause-ok g c = search rules
