use Rattle.crush_plan.proofs.Going.{goes_then_ok}
use Rattle.crush_plan.proofs.weights.set_weights.Goals as goal

pub returns : goal.returns
returns g c = goes_then_ok _ _ _ c.set_one_by_one.result c.in_ok-set_below.ensures c.set_one_by_one.ensures
