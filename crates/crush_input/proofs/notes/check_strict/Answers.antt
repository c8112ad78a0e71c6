use Rattle.std.proofs.Common.{rules, tests}
use Rattle.crush_input.proofs.notes.check_strict.Goals as goal

-- a strict run with refused calls fails because of them
pub returns-clause-strict : goal.returns-clause-strict
returns-clause-strict c = search (rules, tests)
