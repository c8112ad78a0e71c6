use Rattle.std.proofs.Common.{◌≡◌, ◌++◌, take}
use Rattle.crush_reasons.proofs.ceph.push_copies.Given as goal

abbrev pub invariant-loop-edit : goal.invariant-loop-edit
invariant-loop-edit l = l.copies.items ≡ l.fn.copies.items ++ take l.edit-index l.edits
