use Rattle.std.proofs.Common.{arith}
use Rattle.crush_run.proofs.worker.fn.Crew.run_all.scope.Goals as goal

pub join_all-requires : goal.join_all-requires
join_all-requires g c =
    let ok = c.captures.scripts.ok in
    let count = c.in_ok-handles.ensures.count in
    rw c.of-whole.ensures record { count = omega arith; each = c.in_ok-handles.ensures.each }
