use Rattle.crush_ceph.proofs.LawCommands.{commands_do_the_edits, commands_do_the_steps}
use Rattle.crush_ceph.proofs.law.commands_do_the_edits.Goals as goal

pub returns-clause-steps : goal.returns-clause-steps
returns-clause-steps c = commands_do_the_steps

pub returns-clause-edits : goal.returns-clause-edits
returns-clause-edits c = commands_do_the_edits
