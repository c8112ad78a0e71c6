use Rattle.crush_plan.proofs.Going.{adopted, stays_here}
use Rattle.crush_plan.proofs.search.improve_once.Goals as goal

pub returns-then-best-differences : goal.returns-then-best-differences
returns-then-best-differences g c = stays_here _

pub returns : goal.returns
returns g c = adopted c.args.draft.now c.in_ok-best.best.draft _ c.in_ok-best.ensures c.in_ok-adopt.ensures.map c.in_ok-adopt.ensures.edits
