use Rattle.crush_plan.proofs.Going.{goes_then_ok}
use Rattle.crush_plan.proofs.removals.remove_all.Goals as goal

pub returns : goal.returns
returns g c = goes_then_ok _ _ _ c.remove_buckets.result c.in_ok-remove_devices.ensures c.remove_buckets.ensures
