use Rattle.crush_history.specs.Script.{scripts_data}
use Rattle.crush_run.proofs.Runs.{at_once_runs, entries_of_scripts, in_turn_runs}
use Rattle.crush_input.proofs.Outcomes.{when_both, when_ok}
use Rattle.crush_run.proofs.run.run_scripts.Goals as goal

pub returns-then-in_turn-clause-runs : goal.returns-then-in_turn-clause-runs
returns-then-in_turn-clause-runs g c =
    when_ok _ _ c.run_in_turn.result (λ x ran. in_turn_runs c.args.in_turn c.args.map (scripts_data c.args.scripts.items) x.map x.history.items ran) c.run_in_turn.ensures.turns

pub returns-clause-runs : goal.returns-clause-runs
returns-clause-runs g c =
    when_both _ _ _ c.run_at_once.result (λ x carries all. at_once_runs c.args.in_turn c.args.map (scripts_data c.args.scripts.items) x.map x.history.items c.if-in_turn.false all carries.calls)
    c.run_at_once.ensures.run c.run_at_once.ensures.all

pub returns-clause-operators : goal.returns-clause-operators
returns-clause-operators g c =
    when_ok _ _ c.run_at_once.result (λ x carries. entries_of_scripts c.args.scripts.items x.history.items carries.calls) c.run_at_once.ensures.run
