use Rattle.std.proofs.Common.{rules}
use Rattle.crush_builder.proofs.builder.MapBuilder.close.Goals as goal

pub returns : goal.returns
returns g c = search rules
