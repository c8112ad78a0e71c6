use Rattle.crush_plan.proofs.Going.{goes_then_ok}
use Rattle.crush_plan.proofs.renames.rename_chain.Goals as goal

pub returns-then-is_target_free : goal.returns-then-is_target_free
returns-then-is_target_free g c = goes_then_ok _ _ _ c.rename_from.result c.in_ok-release_name.ensures c.rename_from.ensures
