use Rattle.std.proofs.Common.{rules}
use Rattle.crush_apply.proofs.culprits.name_culprit.Goals as goal

pub returns-in-NameTaken : goal.returns-in-NameTaken
returns-in-NameTaken c = search rules
