use Rattle.std.proofs.Common.{subst}
use Rattle.crush_apply.specs.UndoSteps.{LeavesAny}
use Rattle.crush_apply.proofs.Undone.{gone}
use Rattle.crush_apply.proofs.addition.detach_if_any.Goals as goal

pub returns-in-Some : goal.returns-in-Some
returns-in-Some g c = λ f back. gone _ _ f _ c.detach.result c.recall_invariant.ensures c.detach.ensures (subst (λ i. LeavesAny i c.args.hierarchy.now f) c.in-Some.is back)
