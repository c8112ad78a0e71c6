use Rattle.crush_run_tests.specs.Seats.{AreAll}
use Rattle.crush_run_tests.proofs.editor.full.fill_editor.Given as goal

-- there is still one seat for each operator, in the order of the operators
abbrev pub invariant-loop : goal.invariant-loop
invariant-loop g l = AreAll g.N.Ledger.parts l.seats.items
