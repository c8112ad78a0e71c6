use Rattle.std.proofs.Common.{◌≡◌, ◌≤◌, drop}
use Rattle.crush_input.specs.VerbMaps.{text_length}
use Rattle.crush_input.proofs.verb_maps.text_length.Given as goal

abbrev pub invariant-loop-place : goal.invariant-loop-place
invariant-loop-place l = (text_length 0 0 l.bytes ≡ text_length l.place l.best (drop l.place l.bytes)) × (l.best ≤ l.place)
