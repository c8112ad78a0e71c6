use Rattle.std.proofs.Common.{drop}
use Rattle.crush_ceph.proofs.Stepping.{AreSteps}
use Rattle.crush_ceph.proofs.steps.ceph_steps.Given as goal

abbrev pub invariant-loop-edit : goal.invariant-loop-edit
invariant-loop-edit l = AreSteps l.fn.map l.map l.leaves l.steps.items (drop l.edit-index l.edits) l.edits
