use Rattle.std.proofs.Common.{◌≡◌, ◌+◌, drop}
use Rattle.crush_reasons.specs.Misfit.{point_at}
use Rattle.crush_reasons.proofs.misfit.point_at.Given as goal

abbrev pub invariant-loop-place : goal.invariant-loop-place
invariant-loop-place l = point_at l.word ≡ l.place + point_at (drop l.place l.word)
