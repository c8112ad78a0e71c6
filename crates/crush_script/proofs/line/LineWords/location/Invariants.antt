use Rattle.std.proofs.Common.{◌≡◌, [], length}
use Rattle.crush_script.specs.Command.{with_pairs}
use Rattle.crush_script.proofs.line.LineWords.location.Given as goal

-- adding the words that are left to the pairs so far gives the pairs of all words
abbrev pub invariant-loop-word : goal.invariant-loop-word
invariant-loop-word l = with_pairs l.fn.first [] l.fn.self ≡ with_pairs l.fn.first l.at l.self

abbrev pub decreases-loop-word : goal.decreases-loop-word
decreases-loop-word l = length l.self
