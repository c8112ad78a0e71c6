use Rattle.std.proofs.Common.{rules}
use Rattle.std.proofs.lemmas.List.Sorted.{IsNonDecreasingBy-from_sort_by_key}
use Rattle.crush_plan.specs.Classes.{rank}
use Rattle.crush_plan.proofs.InTurn.{by_rank}
use Rattle.crush_plan.proofs.classes.class_steps.Goals as goal

pub returns : goal.returns
returns g c = by_rank _ (IsNonDecreasingBy-from_sort_by_key rank _ c.in_ok-sort_by_key.ensures.sorted (λ a r q k. search rules))
