use Rattle.std.proofs.Common.{refl}
use Rattle.crush_run.proofs.Written.{put_of_writes}
use Rattle.crush_run.proofs.text.write_output.Goals as goal

pub returns-in-Map-clause-writes : goal.returns-in-Map-clause-writes
returns-in-Map-clause-writes g c = λ o t opening stands. rw (c.in-Map.is, ← c.form_of.ensures) (put_of_writes _ _ _ _ (c.write_map.ensures.writes t stands) c.write_map.ensures.none)

pub returns-in-Tree-clause-writes : goal.returns-in-Tree-clause-writes
returns-in-Tree-clause-writes g c = λ o t opening stands. rw c.in-Tree.is (c.write_tree.ensures.writes t stands)

pub returns-in-Since-clause-writes : goal.returns-in-Since-clause-writes
returns-in-Since-clause-writes g c = λ o t opening stands. rw c.in-Since.is (c.write_changed.ensures.writes t stands)

pub returns-in-Changes-clause-writes : goal.returns-in-Changes-clause-writes
returns-in-Changes-clause-writes g c = λ o t opening stands. rw c.in-Changes.is (c.write_changed_tree.ensures.writes t stands)

pub returns-in-AsCeph-clause-writes : goal.returns-in-AsCeph-clause-writes
returns-in-AsCeph-clause-writes g c = λ o t opening stands. rw c.in-AsCeph.is (c.write_ceph.ensures.writes _ o (rw c.in-AsCeph.is at opening refl))

pub returns-in-To-clause-writes : goal.returns-in-To-clause-writes
returns-in-To-clause-writes g c = λ o t opening stands. rw c.in-To.is (c.write_plan.ensures.writes t stands)
