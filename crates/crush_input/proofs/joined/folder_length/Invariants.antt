use Rattle.std.proofs.Common.{◌≡◌, ◌≤◌, drop}
use Rattle.crush_input.specs.Joined.{folder_length}
use Rattle.crush_input.proofs.joined.folder_length.Given as goal

abbrev pub invariant-loop-place : goal.invariant-loop-place
invariant-loop-place l = (folder_length 0 0 l.name ≡ folder_length l.place l.best (drop l.place l.name)) × (l.best ≤ l.place)
