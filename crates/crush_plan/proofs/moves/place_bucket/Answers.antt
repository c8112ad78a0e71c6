use Rattle.crush_plan.proofs.Going.{goes_then_ok}
use Rattle.crush_plan.proofs.moves.place_bucket.Goals as goal

pub returns : goal.returns
returns g c = goes_then_ok _ _ _ c.move_bucket.result c.in_ok-make_if_new.ensures c.move_bucket.ensures
