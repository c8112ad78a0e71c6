use Rattle.std.proofs.Common.{◌≡◌, take}
use Rattle.crush_since.specs.Stays.{line_texts}
use Rattle.crush_plan.proofs.plan.copy_lines.Given as goal

-- the lines so far are copied
abbrev pub invariant-loop-line : goal.invariant-loop-line
invariant-loop-line l = line_texts l.copies.items ≡ line_texts (take l.line-index l.lines)
