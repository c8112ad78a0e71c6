use Rattle.std.proofs.Common.{◌≡◌, string_bytes, take}
use Rattle.crush_history.specs.Script.{scripts_data}
use Rattle.crush_history.specs.HistoryText.{entries_text, names_of}
use Rattle.crush_history.proofs.history.history_text.Given as goal

abbrev pub invariant-loop-place : goal.invariant-loop-place
invariant-loop-place l = string_bytes l.text ≡ entries_text (names_of (scripts_data l.scripts)) 1 ((take l.place l.entries))
