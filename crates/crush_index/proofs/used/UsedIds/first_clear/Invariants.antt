use Rattle.crush_index.proofs.UsedBits.{Searched}
use Rattle.crush_index.proofs.used.UsedIds.first_clear.Given as goal

abbrev pub invariant-loop-place : goal.invariant-loop-place
invariant-loop-place l = Searched l.self l.least l.place
