use Rattle.crush_two_operators.proofs.plan.follow_at_once.Given as goal

-- in this call, the gauge, the opening map and the ledger of the type `N` are those of `started`
abbrev pub ghosts-work_together-N-Desk : goal.ghosts-work_together-N-Desk
ghosts-work_together-N-Desk g a = record { gauge = a.started.table; opening = a.started.opening }

abbrev pub ghosts-work_together-N-Ledger : goal.ghosts-work_together-N-Ledger
ghosts-work_together-N-Ledger g a = record { name = a.started.name; parts = a.started.parts }
