use Rattle.crush_print.proofs.SameText.{map_text-same}
use Rattle.crush_print.proofs.printer.same_tables_print_alike.Goals as goal

pub returns : goal.returns
returns c = map_text-same
