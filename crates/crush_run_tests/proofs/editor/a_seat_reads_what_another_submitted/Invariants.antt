use Rattle.crush_run_tests.proofs.editor.a_seat_reads_what_another_submitted.Given as goal

abbrev pub ghosts-two_operators-N-Desk : goal.ghosts-two_operators-N-Desk
ghosts-two_operators-N-Desk g a = record { gauge = a.started.table; opening = a.started.opening }

abbrev pub ghosts-two_operators-N-Ledger : goal.ghosts-two_operators-N-Ledger
ghosts-two_operators-N-Ledger g a = record { name = a.started.name; parts = a.started.parts }
