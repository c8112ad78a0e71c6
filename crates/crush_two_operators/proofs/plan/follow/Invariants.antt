use Rattle.std.proofs.Common.{◌≡◌}
use Rattle.std.specs.List.{All}
use Rattle.crush_history.specs.History.{AnsweredData}
use Rattle.crush_two_operators.specs.Plan.{IsStep}
use Rattle.crush_two_operators.proofs.plan.follow.Given as goal

-- the seat's operator is unchanged, and all calls of the seat so far were for steps of the plan
abbrev pub invariant-loop : goal.invariant-loop
invariant-loop g l =
    (l.seat.operator ≡ l.fn.seat.operator)
    × (All (λ (a : AnsweredData). IsStep l.plan a.call) l.fn.seat.slips → All (λ (a : AnsweredData). IsStep l.plan a.call) l.seat.slips)
