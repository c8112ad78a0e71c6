use Rattle.std.proofs.Common.{List, ap, ◌∙◌}
use Rattle.std.specs.List.{list_any}
use Rattle.crush_edits.specs.SettingSeen.{step_data}
use Rattle.crush_edits.specs.declared.setting.KeptStep.{KeptStep}
use Rattle.crush_ceph.specs.ForCeph.{takes_with_class}
use Rattle.crush_ceph.proofs.Seen.{any_seen}
use Rattle.crush_ceph.proofs.for_ceph.rule_takes_with_class.Goals as goal

pub returns : goal.returns
returns c =
    let b = c.args.bucket in
    c.steps_take_with_class.ensures
    ∙ ap (λ (steps : List KeptStep). list_any (λ x. takes_with_class b (step_data x)) steps) c.as_slice.ensures.value
    ∙ any_seen (takes_with_class b) step_data c.args.rule.now.steps.items
