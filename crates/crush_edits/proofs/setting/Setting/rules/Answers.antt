use Rattle.std.proofs.Common.{rules}
use Rattle.crush_edits.proofs.setting.Setting.rules.Goals as goal

pub returns : goal.returns
returns c = search rules
