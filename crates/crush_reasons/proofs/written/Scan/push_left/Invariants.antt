use Rattle.std.proofs.Common.{◌≡◌, ◌++◌, List, length}
use Rattle.crush_model.specs.Table.{Row}
use Rattle.crush_reasons.specs.Sums.{IsSummed}
use Rattle.crush_reasons.specs.Written.{lines_left}
use Rattle.crush_reasons.proofs.written.Scan.push_left.Given as goal

-- the lines that were appended so far, followed by the lines for the words that are left
abbrev pub invariant-words : goal.invariant-words
invariant-words l = (t : List Row) → IsSummed l.summed t → l.text.items ++ lines_left t l.self ≡ l.fn.text.items ++ lines_left t l.fn.self

abbrev pub decreases-words : goal.decreases-words
decreases-words l = length l.self.reader.words
