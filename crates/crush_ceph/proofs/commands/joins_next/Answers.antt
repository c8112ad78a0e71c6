use Rattle.std.proofs.Common.{◌≤◌, arith, drop, length, sym}
use Rattle.std.proofs.lemmas.List.{length-drop}
use Rattle.crush_ceph.proofs.Cutting.{no_second}
use Rattle.crush_ceph.proofs.commands.joins_next.Goals as goal

pub returns-else-next-steps-clause-value : goal.returns-else-next-steps-clause-value
returns-else-next-steps-clause-value c =
    let steps = c.args.steps.now in
    let rest = drop c.args.index steps in
    let short : length rest ≤ 1 = omega (arith, length-drop c.args.index steps, c.if-next-steps.false) in
    sym (no_second rest short)
