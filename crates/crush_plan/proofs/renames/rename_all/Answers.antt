use Rattle.crush_plan.proofs.Going.{goes_then_ok}
use Rattle.crush_plan.proofs.renames.rename_all.Goals as goal

pub returns : goal.returns
returns g c = goes_then_ok _ _ _ c.rename_cycles.result c.in_ok-rename_chains.ensures c.rename_cycles.ensures
