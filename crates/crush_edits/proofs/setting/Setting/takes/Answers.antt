use Rattle.std.proofs.Common.{ap, ◌∙◌}
use Rattle.crush_edits.specs.Making.{is_taken_by_rule}
use Rattle.crush_edits.proofs.setting.Setting.takes.Goals as goal

pub returns : goal.returns
returns c = c.takes.ensures ∙ ap (λ s. is_taken_by_rule s c.args.bucket) c.self.view_is
