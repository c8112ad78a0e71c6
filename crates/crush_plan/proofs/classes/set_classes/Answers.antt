use Rattle.crush_plan.proofs.Going.{goes_then_ok}
use Rattle.crush_plan.proofs.classes.set_classes.Goals as goal

pub returns : goal.returns
returns g c = goes_then_ok _ _ _ c.remove_classes.result c.in_ok-make_steps.ensures c.remove_classes.ensures
