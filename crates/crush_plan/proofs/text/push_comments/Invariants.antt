use Rattle.std.proofs.Common.{◌≡◌, ◌++◌, drop, true}
use Rattle.crush_plan.specs.PlanText.{commented}
use Rattle.crush_plan.proofs.text.push_comments.Given as goal

abbrev pub invariant-loop-byte : goal.invariant-loop-byte
invariant-loop-byte l = l.text.items ++ commented l.at_head (drop l.byte-index l.lines) ≡ l.fn.text.items ++ commented true l.lines
