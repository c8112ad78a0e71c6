use Rattle.std.proofs.Common.{◌≡◌}
use Rattle.crush_run_tests.proofs.editor.full.fill_book.Given as goal

-- the book still belongs to the same gauge
abbrev pub invariant-loop : goal.invariant-loop
invariant-loop g l = l.book.table ≡ l.fn.book.table
