use Rattle.std.proofs.Common.{rules}
use Rattle.crush_builder.proofs.builder.MapBuilder.word_fault.Goals as goal

pub returns-then-is_some : goal.returns-then-is_some
returns-then-is_some g c = search rules
