use Rattle.std.proofs.Common.{◌≡◌, length, take}
use Rattle.crush_history.specs.HistoryText.{names_of}
use Rattle.crush_history.specs.Script.{scripts_data}
use Rattle.crush_run.proofs.run.scripts_without_calls.Given as goal

abbrev pub invariant-loop-script : goal.invariant-loop-script
invariant-loop-script l = record {
  count : length l.copies.items ≡ l.script-index;
  names : names_of (scripts_data l.copies.items) ≡ names_of (scripts_data (take l.script-index l.scripts));
}
