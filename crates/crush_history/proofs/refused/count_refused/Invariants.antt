use Rattle.std.proofs.Common.{◌≡◌, ◌≤◌, take}
use Rattle.crush_history.specs.Refused.{refusals}
use Rattle.crush_history.proofs.refused.count_refused.Given as goal

abbrev pub invariant-loop-entry : goal.invariant-loop-entry
invariant-loop-entry l = record { few : l.count ≤ l.entry-index; count : l.count ≡ refusals ((take l.entry-index l.entries)) }
