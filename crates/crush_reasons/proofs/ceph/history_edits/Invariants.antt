use Rattle.std.proofs.Common.{◌≡◌, take}
use Rattle.crush_reasons.specs.Replay.{history_edits}
use Rattle.crush_reasons.proofs.ceph.history_edits.Given as goal

abbrev pub invariant-loop-entry : goal.invariant-loop-entry
invariant-loop-entry l = l.edits.items ≡ history_edits (take l.entry-index l.entries)
