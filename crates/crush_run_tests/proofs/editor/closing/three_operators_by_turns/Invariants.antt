use Rattle.crush_run_tests.proofs.editor.closing.three_operators_by_turns.Given as goal

abbrev pub ghosts-close_after-N-Desk : goal.ghosts-close_after-N-Desk
ghosts-close_after-N-Desk g a = record { gauge = a.started.table; opening = a.started.opening }

abbrev pub ghosts-close_after-N-Ledger : goal.ghosts-close_after-N-Ledger
ghosts-close_after-N-Ledger g a = record { name = a.started.name; parts = a.started.parts }
