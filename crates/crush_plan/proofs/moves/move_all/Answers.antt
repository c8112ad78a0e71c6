use Rattle.crush_plan.proofs.Going.{goes_then_ok}
use Rattle.crush_plan.proofs.moves.move_all.Goals as goal

pub returns : goal.returns
returns g c = goes_then_ok _ _ _ c.move_devices.result c.in_ok-place_buckets.ensures c.move_devices.ensures
