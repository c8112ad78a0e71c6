use Rattle.std.proofs.Common.{◌≡◌, ◌+◌, drop}
use Rattle.crush_reasons.specs.Misfit.{unit_at}
use Rattle.crush_reasons.proofs.misfit.unit_at.Given as goal

abbrev pub invariant-loop-place : goal.invariant-loop-place
invariant-loop-place l = unit_at l.word ≡ l.place + unit_at (drop l.place l.word)
