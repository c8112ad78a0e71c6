use Rattle.std.proofs.Common.{◌≡◌, ◌++◌}
use Rattle.crush_print.specs.TreeText.{spaces}
use Rattle.crush_print.proofs.columns.push_spaces.Given as goal

abbrev pub invariant-loop-done : goal.invariant-loop-done
invariant-loop-done l = l.out.items ≡ l.fn.out.items ++ spaces l._done
