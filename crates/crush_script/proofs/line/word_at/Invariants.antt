use Rattle.std.proofs.Common.{◌≡◌, ◌+◌, drop, not}
use Rattle.std.specs.List.{position_or_len}
use Rattle.crush_script.specs.Lines.{is_space_or_tab}
use Rattle.crush_script.proofs.line.word_at.Given as goal

abbrev pub invariant-loop-place : goal.invariant-loop-place
invariant-loop-place l = position_or_len (λ b. not (is_space_or_tab b)) l.text ≡ l.place + position_or_len (λ b. not (is_space_or_tab b)) (drop l.place l.text)
