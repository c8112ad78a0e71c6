use Rattle.std.proofs.Common.{◌≡◌, length}
use Rattle.crush_units.specs.Words.{words}
use Rattle.crush_reasons.specs.Around.{further, nothing_yet}
use Rattle.crush_reasons.proofs.around.go_through.Given as goal

-- the result for all words is the result for the words that are left, continued from the state after the words so far
abbrev pub invariant-loop-word : goal.invariant-loop-word
invariant-loop-word l = further nothing_yet (words 0 l.fn.text).words ≡ further l.around l.reader.words

abbrev pub decreases-loop-word : goal.decreases-loop-word
decreases-loop-word l = length l.reader.words
