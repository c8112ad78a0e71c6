use Rattle.std.proofs.Common.{ap, [], ◌∷◌, ◌++◌, ◌∙◌}
use Rattle.crush_edits.specs.Setting.{SettingData, kind_name}
use Rattle.crush_edits.specs.SettingSeen.{kind_data}
use Rattle.crush_edits.proofs.setting.Setting.push_kind.Goals as goal

pub push-requires : goal.push-requires
push-requires c = ap (λ s. kind_name s c.args.number) c.self.view_is ∙ c.requires

pub returns-clause-ok : goal.returns-clause-ok
returns-clause-ok c =
    λ j. record (c.self.view_is j) { kinds = (c.in_ok-push.ensures.ok ∙ ap (λ (s : SettingData). s.kinds ++ kind_data (c.args.number, c.args.name) ∷ []) c.self.view_is) j }
