use Rattle.std.proofs.Common.{◌≡◌, ◌≤◌, take}
use Rattle.std.specs.List.{count_by}
use Rattle.crush_reasons.specs.Made.{is_add_bucket}
use Rattle.crush_reasons.proofs.made.count_add_buckets.Given as goal

abbrev pub invariant-loop-edit : goal.invariant-loop-edit
invariant-loop-edit l = record { few : l.count ≤ l.edit-index; count : l.count ≡ count_by is_add_bucket (take l.edit-index l.edits) }
