use Rattle.clap.specs.Words.{kind_of}
use Rattle.crush_options.proofs.command_line.plain_fault_of.Goals as goal

pub returns : goal.returns
returns c = c.with_verbs.ensures (kind_of c.args.error.now) c.fault_of.ensures
