use Rattle.std.proofs.Common.{◌≡◌}
use Rattle.crush_examples.proofs.growths.book.Committing.commit_all.Given as goal

abbrev pub invariant-loop-operator : goal.invariant-loop-operator
invariant-loop-operator g l = l.book.table ≡ l.fn.book.table

abbrev pub invariant-loop-call : goal.invariant-loop-call
invariant-loop-call g l = l.book.table ≡ l.fn.book.table
