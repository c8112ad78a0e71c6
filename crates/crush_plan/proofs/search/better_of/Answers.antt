use Rattle.std.proofs.Common.{inl, inr, refl}
use Rattle.crush_plan.proofs.search.better_of.Goals as goal

pub returns-then-is_better : goal.returns-then-is_better
returns-then-is_better g c = inr refl

pub returns-else-is_better : goal.returns-else-is_better
returns-else-is_better g c = inl refl
