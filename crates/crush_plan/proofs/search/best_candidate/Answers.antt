use Rattle.crush_plan.specs.declared.search.Candidate.{Candidate}
use Rattle.crush_plan.specs.Draft.{IsContinued}
use Rattle.crush_plan.proofs.Going.{either}
use Rattle.crush_plan.proofs.search.best_candidate.Goals as goal

pub returns : goal.returns
returns g c = either (λ (best : Candidate _). IsContinued c.args.goal.now c.args.draft.now best.draft) _ _ _ c.better_of.ensures c.in_ok-first.ensures c.in_ok-second.ensures
