use Rattle.crush_json.proofs.PlanLaws.{commands_done}
use Rattle.crush_json.proofs.write.plan.push_commands.Goals as goal

pub returns : goal.returns
returns c =
    commands_done c.args.edits.now c.end_array.result c.args.out.now c.begin_array.new.self c.push_each.new.out c.end_array.new.self c.in_ok-begin_array.ensures c.in_ok-push_each.ensures c.end_array.ensures
