use Rattle.std.proofs.Common.{ap, ◌∙◌}
use Rattle.crush_edits.specs.Setting.{first_name}
use Rattle.crush_edits.proofs.SettingLaws.{name_got}
use Rattle.crush_edits.proofs.setting.kinds.Kinds.name.Goals as goal

pub returns : goal.returns
returns c = c.get.ensures.value ∙ name_got c.args.number c.self.inside.names.entries ∙ ap (λ ks. first_name ks c.args.number) c.self.view_is
