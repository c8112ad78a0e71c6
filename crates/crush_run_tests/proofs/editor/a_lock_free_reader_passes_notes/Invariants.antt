use Rattle.crush_run_tests.proofs.editor.a_lock_free_reader_passes_notes.Given as goal

abbrev pub ghosts-a_reader_between_two-N-Desk : goal.ghosts-a_reader_between_two-N-Desk
ghosts-a_reader_between_two-N-Desk g a = record { gauge = a.started.table; opening = a.started.opening }

abbrev pub ghosts-a_reader_between_two-N-Ledger : goal.ghosts-a_reader_between_two-N-Ledger
ghosts-a_reader_between_two-N-Ledger g a = record { name = a.started.name; parts = a.started.parts }
