use Rattle.std.proofs.Common.{length}
use Rattle.crush_history.specs.Entries.{AreOf}
use Rattle.crush_script_tests.proofs.histories.entries_of.Given as goal

abbrev pub invariant-loop-call : goal.invariant-loop-call
invariant-loop-call g l = AreOf (length l.scripts) l.entries.items
