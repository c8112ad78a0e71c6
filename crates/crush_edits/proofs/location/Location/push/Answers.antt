use Rattle.std.proofs.Common.{rules}
use Rattle.crush_edits.proofs.location.Location.push.Goals as goal

pub returns-clause-ok : goal.returns-clause-ok
returns-clause-ok c = search rules

pub returns-then-not-is_name-clause-fault : goal.returns-then-not-is_name-clause-fault
returns-then-not-is_name-clause-fault c = search rules
