use Rattle.std.proofs.Common.{◌≡◌, map, take}
use Rattle.crush_reasons.proofs.edits_left.EditsLeft.new.Given as goal

abbrev pub invariant-loop-section : goal.invariant-loop-section
invariant-loop-section l = map (λ s. s.now) l.lines.items ≡ map (λ numbers. numbers.items) (take l.section-index l.sections)
