use Rattle.std.proofs.Common.{◌++◌, ap, sym}
use Rattle.crush_reasons.proofs.Scanning.{lines_next, no_lines, then_left}
use Rattle.crush_reasons.proofs.written.Scan.push_next.Goals as goal

-- if no word follows the three words, they have no line
pub returns-in_default-clause-goes : goal.returns-in_default-clause-goes
returns-in_default-clause-goes c = λ t stands. ap (λ l. c.args.text.now.items ++ l) (sym (no_lines t _ _ _ _ _ c.in_default.ensures.next))

-- the line for the item that begins at the first word, followed by the lines for the words after it
pub returns-clause-goes : goal.returns-clause-goes
returns-clause-goes c = λ t stands. rw c.is_inside-self.ensures (then_left _ _ _ _ _ (c.in_ok-push_first.ensures t stands) (lines_next t _ _ _ _ _ _ _ c.in-Some.ensures.next))
