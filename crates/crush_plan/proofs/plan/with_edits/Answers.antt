use Rattle.crush_plan.proofs.plan.with_edits.Goals as goal

pub returns : goal.returns
returns g c = c.to_goal.ensures
