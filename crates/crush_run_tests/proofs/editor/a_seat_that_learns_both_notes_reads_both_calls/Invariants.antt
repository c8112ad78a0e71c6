use Rattle.crush_run_tests.proofs.editor.a_seat_that_learns_both_notes_reads_both_calls.Given as goal

abbrev pub ghosts-three_operators-N-Desk : goal.ghosts-three_operators-N-Desk
ghosts-three_operators-N-Desk g a = record { gauge = a.started.table; opening = a.started.opening }

abbrev pub ghosts-three_operators-N-Ledger : goal.ghosts-three_operators-N-Ledger
ghosts-three_operators-N-Ledger g a = record { name = a.started.name; parts = a.started.parts }
