use Rattle.std.proofs.Common.{◌≡◌, ◌≤◌, take}
use Rattle.crush_history.specs.History.{changes}
use Rattle.crush_history.proofs.entry.count_changes.Given as goal

abbrev pub invariant-loop-entry : goal.invariant-loop-entry
invariant-loop-entry l = record { few : l.count ≤ l.entry-index; count : l.count ≡ changes ((take l.entry-index l.entries)) }
