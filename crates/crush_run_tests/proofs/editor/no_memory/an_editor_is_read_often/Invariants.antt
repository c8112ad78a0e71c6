use Rattle.crush_run_tests.proofs.editor.no_memory.an_editor_is_read_often.Given as goal

abbrev pub ghosts-read_editor-N-Desk : goal.ghosts-read_editor-N-Desk
ghosts-read_editor-N-Desk g a = record { gauge = a.started.table; opening = a.started.opening }

abbrev pub ghosts-read_editor-N-Ledger : goal.ghosts-read_editor-N-Ledger
ghosts-read_editor-N-Ledger g a = record { name = a.started.name; parts = a.started.parts }
