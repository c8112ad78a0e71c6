use Rattle.std.proofs.Common.{ap, ◌∙◌}
use Rattle.crush_edits.specs.Setting.{kind_name}
use Rattle.crush_edits.proofs.setting.Setting.kind_name.Goals as goal

pub returns : goal.returns
returns c = c.name.ensures ∙ ap (λ s. kind_name s c.args.number) c.self.view_is
