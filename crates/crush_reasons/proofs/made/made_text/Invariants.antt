use Rattle.std.proofs.Common.{◌≡◌, take}
use Rattle.crush_history.specs.Script.{scripts_data}
use Rattle.crush_history.specs.HistoryText.{names_of}
use Rattle.crush_reasons.specs.Made.{made_text}
use Rattle.crush_reasons.proofs.made.made_text.Given as goal

abbrev pub invariant-loop-place : goal.invariant-loop-place
invariant-loop-place l = l.text.items ≡ made_text (names_of (scripts_data l.scripts)) 1 ((take l.place l.entries))
