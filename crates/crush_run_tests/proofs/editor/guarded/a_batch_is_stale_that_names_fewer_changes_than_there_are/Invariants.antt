use Rattle.crush_run_tests.proofs.editor.guarded.a_batch_is_stale_that_names_fewer_changes_than_there_are.Given as goal

abbrev pub ghosts-two_operators-N-Desk : goal.ghosts-two_operators-N-Desk
ghosts-two_operators-N-Desk g a = record { gauge = a.started.table; opening = a.started.opening }

abbrev pub ghosts-two_operators-N-Ledger : goal.ghosts-two_operators-N-Ledger
ghosts-two_operators-N-Ledger g a = record { name = a.started.name; parts = a.started.parts }
