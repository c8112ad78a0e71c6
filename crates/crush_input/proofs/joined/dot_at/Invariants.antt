use Rattle.std.proofs.Common.{◌≡◌, ◌==◌, ◌+◌, drop}
use Rattle.std.specs.List.{position_or_len}
use Rattle.crush_input.proofs.joined.dot_at.Given as goal

abbrev pub invariant-loop-place : goal.invariant-loop-place
invariant-loop-place l = position_or_len (λ b. b == 46) l.name ≡ l.place + position_or_len (λ b. b == 46) (drop l.place l.name)
