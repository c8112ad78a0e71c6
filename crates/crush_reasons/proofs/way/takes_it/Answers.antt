use Rattle.std.proofs.Common.{Bool, List, ap, ◌∙◌}
use Rattle.std.specs.List.{list_any}
use Rattle.crush_model.specs.Table.{member}
use Rattle.crush_edits.specs.Setting.{StepData, bucket_taken}
use Rattle.crush_edits.specs.SettingSeen.{step_data}
use Rattle.crush_edits.specs.declared.setting.KeptStep.{KeptStep}
use Rattle.crush_reasons.proofs.Naming.{any_seen}
use Rattle.crush_reasons.proofs.way.takes_it.Goals as goal

pub returns : goal.returns
returns c =
    let test : StepData → Bool = λ x. member c.args.bucket (bucket_taken x) in
    c.steps_take.ensures ∙ ap (λ (steps : List KeptStep). list_any (λ s. test (step_data s)) steps) c.as_slice.ensures.value ∙ any_seen test step_data c.args.rule.now.steps.items
