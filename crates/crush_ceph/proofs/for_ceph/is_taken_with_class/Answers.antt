use Rattle.std.proofs.Common.{ap, ◌∙◌, List}
use Rattle.std.specs.List.{list_any}
use Rattle.crush_edits.specs.Setting.{RuleData, SettingData}
use Rattle.crush_edits.specs.SettingSeen.{rule_data}
use Rattle.crush_ceph.specs.ForCeph.{is_taken_with_class, rule_takes_with_class}
use Rattle.crush_ceph.proofs.Seen.{any_seen}
use Rattle.crush_ceph.proofs.for_ceph.is_taken_with_class.Goals as goal

pub returns : goal.returns
returns c =
    let test = rule_takes_with_class c.args.bucket in
    c.rules_take_with_class.ensures
    ∙ any_seen test rule_data c.rules.result.now
    ∙ ap (λ (rules : List RuleData). list_any test rules) c.rules.ensures
    ∙ ap (λ (s : SettingData). is_taken_with_class s c.args.bucket) c.setting.ensures
