use Rattle.crush_run_tests.specs.Seats.{AreAll}
use Rattle.crush_run_tests.proofs.editor.closing.submit_each.Given as goal

-- there is still one seat for each operator, in the order of the operators
abbrev pub invariant-loop-operator : goal.invariant-loop-operator
invariant-loop-operator g l = AreAll g.N.Ledger.parts l.seats.items
