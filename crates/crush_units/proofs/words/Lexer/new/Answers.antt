use Rattle.std.proofs.Common.{rules}
use Rattle.crush_units.proofs.words.Lexer.new.Goals as goal

pub returns : goal.returns
returns c = search rules
