use Rattle.std.proofs.Common.{◌≡◌, ◌++◌, take}
use Rattle.crush_history.specs.HistoryText.{names_of}
use Rattle.crush_history.specs.Script.{scripts_data}
use Rattle.crush_json.specs.HistoryDocument.{entry_documents}
use Rattle.crush_json.specs.Tokens.{tokens_of_all}
use Rattle.crush_json.proofs.history.push_entries.Given as goal

abbrev pub invariant-loop-place : goal.invariant-loop-place
invariant-loop-place l = l.out ≡ l.fn.out ++ tokens_of_all (entry_documents (names_of (scripts_data l.history.scripts.now)) 1 (take l.place l.history.entries.now))
