use Rattle.crush_run.proofs.Written.{put_of_writes}
use Rattle.crush_run.proofs.document.write_document.Goals as goal

pub returns-in-Map-clause-writes : goal.returns-in-Map-clause-writes
returns-in-Map-clause-writes g c = λ o t opening stands. rw (c.in-Map.is, ← c.history_if_requested-history.ensures.told) (put_of_writes _ _ _ _ (c.write_map_document.ensures.writes t stands) c.write_map_document.ensures.none)

pub returns-in-Tree-clause-writes : goal.returns-in-Tree-clause-writes
returns-in-Tree-clause-writes g c = λ o t opening stands. rw (c.in-Tree.is, ← c.history_if_requested-history.ensures.told, ← c.part_of-part.ensures t stands) (put_of_writes _ _ _ _ (c.write_tree_document.ensures.writes t stands) c.write_tree_document.ensures.none)

pub returns-in-Since-clause-writes : goal.returns-in-Since-clause-writes
returns-in-Since-clause-writes g c = λ o t opening stands. rw (c.in-Since.is, ← c.history_if_requested-history.ensures.told, ← c.name_of.ensures, ← c.named_item-under.ensures t stands) (c.write_changed.ensures.writes t stands)

pub returns-in-Changes-clause-writes : goal.returns-in-Changes-clause-writes
returns-in-Changes-clause-writes g c = λ o t opening stands. rw (c.in-Changes.is, ← c.history_if_requested-history.ensures.told, ← c.name_of-in-Changes.ensures, ← c.named_item-under-in-Changes.ensures t stands) (c.write_changed-in-Changes.ensures.writes t stands)

pub returns-in-AsCeph-clause-writes : goal.returns-in-AsCeph-clause-writes
returns-in-AsCeph-clause-writes g c = λ o t opening stands.
    let written = c.write_text.ensures.writes o t opening stands in
    rw c.in-AsCeph.is (rw c.in-AsCeph.is at written)
