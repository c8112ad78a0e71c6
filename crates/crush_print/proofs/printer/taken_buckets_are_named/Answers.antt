use Rattle.crush_print.proofs.TakenNames.{taken_buckets-named}
use Rattle.crush_print.proofs.printer.taken_buckets_are_named.Goals as goal

pub returns : goal.returns
returns c = taken_buckets-named
