use Rattle.std.proofs.Common.{arith}
use Rattle.crush_units.proofs.Appending.{some_more}
use Rattle.crush_units.proofs.write.put.Goals as goal

pub loop-done-preserved : goal.loop-done-preserved
loop-done-preserved g c = (omega (arith, c.in-Ok.ensures.bound), some_more _ _ _ c.args.bytes.now _ _ _ c.split_at.ensures.back c.loop-done.invariant.1 c.in-Ok.ensures.bytes)
