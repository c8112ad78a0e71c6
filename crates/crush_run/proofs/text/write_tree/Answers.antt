use Rattle.std.proofs.Common.{ap}
use Rattle.crush_run.proofs.Written.{put_of_writes}
use Rattle.crush_run.proofs.text.write_tree.Goals as goal

pub returns-in-Some-clause-writes : goal.returns-in-Some-clause-writes
returns-in-Some-clause-writes g c = λ t stands. rw (c.in-Some.is, ← c.part_of-part.ensures t stands, ← c.as_str.ensures.value) (put_of_writes _ _ _ _ (c.write_tree_of_class.ensures.writes t stands) c.write_tree_of_class.ensures.none)

pub returns-in-None-clause-writes : goal.returns-in-None-clause-writes
returns-in-None-clause-writes g c = λ t stands. rw (c.in-None.is, ← c.part_of-part.ensures t stands) (put_of_writes _ _ _ _ (c.write_tree_part.ensures.writes t stands) c.write_tree_part.ensures.none)
