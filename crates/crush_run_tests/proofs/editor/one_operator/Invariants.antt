use Rattle.crush_run_tests.proofs.editor.one_operator.Given as goal

abbrev pub ghosts-one_operator_of-N-Desk : goal.ghosts-one_operator_of-N-Desk
ghosts-one_operator_of-N-Desk g a = record { gauge = a.started.table; opening = a.started.opening }

abbrev pub ghosts-one_operator_of-N-Ledger : goal.ghosts-one_operator_of-N-Ledger
ghosts-one_operator_of-N-Ledger g a = record { name = a.started.name; parts = a.started.parts }
