use Rattle.std.proofs.Common.{ap, ◌∙◌}
use Rattle.crush_edits.specs.Setting.{kind_number}
use Rattle.crush_edits.proofs.setting.Setting.kind_number.Goals as goal

pub returns : goal.returns
returns c = c.number.ensures ∙ ap (λ s. kind_number s c.args.name.now) c.self.view_is
