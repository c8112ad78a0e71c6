use Rattle.crush_plan.specs.declared.search.Candidate.{Candidate}
use Rattle.crush_plan.specs.Draft.{IsContinued}
use Rattle.crush_plan.proofs.Going.{either}
use Rattle.crush_plan.proofs.search.try_way.Goals as goal

pub returns : goal.returns
returns g c = either (λ (found : Candidate _). IsContinued c.args.goal.now c.args.draft.now found.draft) _ _ _ c.better_of.ensures c.in_ok-first.ensures c.in_ok-second.ensures
