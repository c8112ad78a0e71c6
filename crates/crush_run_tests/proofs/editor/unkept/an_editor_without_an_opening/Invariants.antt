use Rattle.crush_run_tests.proofs.editor.unkept.an_editor_without_an_opening.Given as goal

abbrev pub ghosts-one_operator-N-Desk : goal.ghosts-one_operator-N-Desk
ghosts-one_operator-N-Desk g a = record { gauge = a.started.table; opening = a.started.opening }

abbrev pub ghosts-one_operator-N-Ledger : goal.ghosts-one_operator-N-Ledger
ghosts-one_operator-N-Ledger g a = record { name = a.started.name; parts = a.started.parts }
