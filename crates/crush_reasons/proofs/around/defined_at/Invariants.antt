use Rattle.std.proofs.Common.{◌≡◌, length}
use Rattle.crush_units.specs.Words.{words}
use Rattle.crush_reasons.specs.Around.{looked_for, nothing_seen}
use Rattle.crush_reasons.proofs.around.defined_at.Given as goal

-- the result for all words is the result for the words that are left, continued from the state after the words so far
abbrev pub invariant-loop-word : goal.invariant-loop-word
invariant-loop-word l = looked_for l.fn.name nothing_seen (words 0 l.fn.bytes).words ≡ looked_for l.fn.name l.search l.reader.words

abbrev pub decreases-loop-word : goal.decreases-loop-word
decreases-loop-word l = length l.reader.words
