use Rattle.std.proofs.Common.{◌≡◌, ◌^◌}
use Rattle.crush_units.proofs.weight.ten_to.Given as goal

abbrev pub invariant-loop : goal.invariant-loop
invariant-loop l = l.power ≡ 10 ^ l.counter
