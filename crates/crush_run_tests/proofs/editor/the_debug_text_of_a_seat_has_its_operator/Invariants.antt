use Rattle.crush_run_tests.proofs.editor.the_debug_text_of_a_seat_has_its_operator.Given as goal

abbrev pub ghosts-shown-N-Desk : goal.ghosts-shown-N-Desk
ghosts-shown-N-Desk g a = record { gauge = a.started.table; opening = a.started.opening }

abbrev pub ghosts-shown-N-Ledger : goal.ghosts-shown-N-Ledger
ghosts-shown-N-Ledger g a = record { name = a.started.name; parts = a.started.parts }
