-- The number that the digits after the minus spell.
use Rattle.std.proofs.Common.{arith}
use Rattle.std.proofs.lemmas.Grind.{common_steps}
use Rattle.crush_text.proofs.reader.bucket.below_zero.Goals as goal

pub returns : goal.returns
returns c = grind (arith, common_steps)
