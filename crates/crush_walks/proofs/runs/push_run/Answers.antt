use Rattle.crush_walks.proofs.RunSteps.{put_behind}
use Rattle.crush_walks.proofs.runs.push_run.Goals as goal

pub returns : goal.returns
returns g c = put_behind c.args.runs.now.items _ c.of_one.result c.args.weight c.in_ok-push.ensures.items c.of_one.ensures
