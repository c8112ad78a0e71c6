use Rattle.std.proofs.Common.{rules, rules}
use Rattle.crush_text.proofs.reader.statement.is_out_of_place.Goals as goal

pub returns-then-late : goal.returns-then-late
returns-then-late c = search rules
