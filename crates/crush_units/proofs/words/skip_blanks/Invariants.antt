-- The words from this place on are the words from the start.
use Rattle.std.proofs.Common.{◌≡◌, ◌-◌, ◌≤◌, length, drop}
use Rattle.crush_units.specs.Words.{words, words_in}
use Rattle.crush_units.proofs.words.skip_blanks.Given as goal

abbrev pub invariant-loop-place : goal.invariant-loop-place
invariant-loop-place l = (l.place ≤ length l.text) × (words_in l.inside l.place (drop l.place l.text) ≡ words l.from (drop l.from l.text))

abbrev pub decreases-loop-place : goal.decreases-loop-place
decreases-loop-place l = length l.text - l.place
