use Rattle.std.proofs.Common.{length}
use Rattle.crush_history.proofs.EntryLines.{none_yet, one_more}
use Rattle.crush_script_tests.proofs.histories.entries_of.Goals as goal

pub loop-call-init : goal.loop-call-init
loop-call-init g c = none_yet (length c.args.scripts.now) _ c.new-entries.ensures.items

pub loop-call-preserved : goal.loop-call-preserved
loop-call-preserved g c = one_more (length c.args.scripts.now) _ _ _ c.in-Ok.ensures.items c.loop-call.invariant c.requires
