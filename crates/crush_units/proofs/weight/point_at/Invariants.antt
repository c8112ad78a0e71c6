use Rattle.std.proofs.Common.{◌≡◌, ◌+◌, ◌-◌, ◌≤◌, length, drop}
use Rattle.std.specs.List.{position_or_len}
use Rattle.crush_units.specs.Weight.{is_point}
use Rattle.crush_units.proofs.weight.point_at.Given as goal

abbrev pub invariant-loop-place : goal.invariant-loop-place
invariant-loop-place l = record { within : l.place ≤ length l.text; rest : l.place + position_or_len is_point (drop l.place l.text) ≡ position_or_len is_point l.text }

abbrev pub decreases-loop-place : goal.decreases-loop-place
decreases-loop-place l = length l.text - l.place
