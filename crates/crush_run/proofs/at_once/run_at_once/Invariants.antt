use Rattle.crush_run.proofs.at_once.run_at_once.Given as goal

abbrev pub ghosts-operate-N-Desk : goal.ghosts-operate-N-Desk
ghosts-operate-N-Desk g a = record { gauge = a.started.table; opening = a.started.opening }

abbrev pub ghosts-operate-N-Ledger : goal.ghosts-operate-N-Ledger
ghosts-operate-N-Ledger g a = record { name = a.started.name; parts = a.started.parts }
