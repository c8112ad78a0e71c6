use Rattle.crush_history.proofs.ceph.push_words.Goals as goal

pub returns-in-ReweightSubtree : goal.returns-in-ReweightSubtree
returns-in-ReweightSubtree c =
    let text = rw (c.as_bytes-in-ReweightSubtree.ensures.value, c.word-in-ReweightSubtree.ensures.word) at c.push_weighing-in-ReweightSubtree.ensures in
    rw c.in-ReweightSubtree.is text
