use Rattle.std.proofs.Common.{◌≡◌, ◌+◌, drop}
use Rattle.std.specs.List.{position_or_len}
use Rattle.crush_script.specs.Lines.{is_space_or_tab}
use Rattle.crush_script.proofs.line.blank_at.Given as goal

abbrev pub invariant-loop-place : goal.invariant-loop-place
invariant-loop-place l = position_or_len is_space_or_tab l.text ≡ l.place + position_or_len is_space_or_tab (drop l.place l.text)
