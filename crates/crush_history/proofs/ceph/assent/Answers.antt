use Rattle.std.proofs.Common.{rules}
use Rattle.crush_history.proofs.ceph.assent.Goals as goal

pub returns-in-Swap : goal.returns-in-Swap
returns-in-Swap c = search rules
