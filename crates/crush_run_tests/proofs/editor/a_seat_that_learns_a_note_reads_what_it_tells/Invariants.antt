use Rattle.crush_run_tests.proofs.editor.a_seat_that_learns_a_note_reads_what_it_tells.Given as goal

abbrev pub ghosts-a_note_between_two-N-Desk : goal.ghosts-a_note_between_two-N-Desk
ghosts-a_note_between_two-N-Desk g a = record { gauge = a.started.table; opening = a.started.opening }

abbrev pub ghosts-a_note_between_two-N-Ledger : goal.ghosts-a_note_between_two-N-Ledger
ghosts-a_note_between_two-N-Ledger g a = record { name = a.started.name; parts = a.started.parts }
