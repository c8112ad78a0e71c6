use Rattle.std.proofs.Common.{◌≡◌, take, true}
use Rattle.crush_units.specs.Name.{are_name_bytes}
use Rattle.crush_units.proofs.name.first_bad.Given as goal

abbrev pub invariant-loop-place : goal.invariant-loop-place
invariant-loop-place l = are_name_bytes (take l.place l.bytes) ≡ true
