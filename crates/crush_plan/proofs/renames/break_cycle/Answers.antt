use Rattle.crush_plan.proofs.Going.{goes_then, goes_then_ok}
use Rattle.crush_plan.proofs.renames.break_cycle.Goals as goal

pub returns : goal.returns
returns g c = goes_then_ok _ _ _ c.rename_bucket-2.result (goes_then _ _ _ c.in_ok-rename_bucket.ensures c.in_ok-rename_from.ensures) c.rename_bucket-2.ensures
