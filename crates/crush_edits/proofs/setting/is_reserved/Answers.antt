use Rattle.std.proofs.Common.{rules}
use Rattle.crush_edits.proofs.setting.is_reserved.Goals as goal

pub returns-else-eq-5 : goal.returns-else-eq-5
returns-else-eq-5 c = search rules
