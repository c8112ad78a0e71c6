use Rattle.crush_run_tests.proofs.editor.no_memory.close_editors.Given as goal

abbrev pub ghosts-end_editor-N-Desk : goal.ghosts-end_editor-N-Desk
ghosts-end_editor-N-Desk g a = record { gauge = a.started.table; opening = a.started.opening }

abbrev pub ghosts-end_editor-N-Ledger : goal.ghosts-end_editor-N-Ledger
ghosts-end_editor-N-Ledger g a = record { name = a.started.name; parts = a.started.parts }
