use Rattle.crush_run.proofs.Written.{keeps_same}
use Rattle.crush_run.proofs.text.write_ceph.Goals as goal

-- if memory runs out, then nothing is written
pub returns-in_default-ceph_lines-clause-writes : goal.returns-in_default-ceph_lines-clause-writes
returns-in_default-ceph_lines-clause-writes g c = λ s o kept. keeps_same _
