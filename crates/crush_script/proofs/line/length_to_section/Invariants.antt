use Rattle.std.proofs.Common.{◌≡◌, ◌+◌, drop, true}
use Rattle.crush_script.specs.Lines.{length_to_section}
use Rattle.crush_script.proofs.line.length_to_section.Given as goal

abbrev pub invariant-loop-place : goal.invariant-loop-place
invariant-loop-place l = length_to_section true l.job ≡ length_to_section l.starts (drop l.place l.job) + l.place
