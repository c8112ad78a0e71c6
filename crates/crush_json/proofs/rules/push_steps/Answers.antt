use Rattle.std.proofs.Common.{List, ◌++◌, ap, ◌∙◌, map}
use Rattle.json.specs.Token.{Token}
use Rattle.crush_edits.specs.SettingSeen.{step_data}
use Rattle.crush_json.specs.RuleDocument.{step_document}
use Rattle.crush_json.proofs.Listed.{array_done, mapped_seen}
use Rattle.crush_json.proofs.rules.push_steps.Goals as goal

pub returns : goal.returns
returns g c = λ t stands.
    array_done (map (step_document t) (map step_data c.args.steps.now)) c.end_array.result c.args.out.now c.begin_array.new.self c.push_each_step.new.out c.end_array.new.self c.in_ok-begin_array.ensures
    (c.in_ok-push_each_step.ensures t stands ∙ ap (λ (l : List Token). c.begin_array.new.self ++ l) (mapped_seen step_data (step_document t) c.args.steps.now)) c.end_array.ensures
