use Rattle.crush_plan.proofs.Going.{forked}
use Rattle.crush_plan.proofs.search.try_edits.Goals as goal

pub returns : goal.returns
returns g c = forked c.args.draft.now c.in_ok-fork.fork _ c.in_ok-fork.ensures c.in_ok-build_edits.ensures
