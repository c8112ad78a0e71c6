use Rattle.std.proofs.Common.{rules}
use Rattle.crush_apply.proofs.classes.check_set_class.Goals as goal

pub returns-then-is-clause-can : goal.returns-then-is-clause-can
returns-then-is-clause-can g c = search rules

pub returns-else-is-clause-can : goal.returns-else-is-clause-can
returns-else-is-clause-can g c = search rules
