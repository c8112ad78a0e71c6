use Rattle.std.proofs.Common.{◌≡◌, ◌≤◌, take}
use Rattle.crush_reasons.specs.Made.{makings}
use Rattle.crush_reasons.proofs.made.count_makings.Given as goal

abbrev pub invariant-loop-entry : goal.invariant-loop-entry
invariant-loop-entry l = record { few : l.count ≤ l.entry-index; count : l.count ≡ makings (take l.entry-index l.entries) }
