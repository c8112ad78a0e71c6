use Rattle.std.proofs.lemmas.Result.{IfOk-weaker}
use Rattle.crush_run.proofs.differing.differs.Goals as goal

pub returns-in-Since : goal.returns-in-Since
returns-in-Since c = IfOk-weaker c.has_changed.result _ _ (λ told is. λ t stands. rw c.in-Since.is (is t stands)) c.has_changed.ensures

pub returns-in-Changes : goal.returns-in-Changes
returns-in-Changes c = IfOk-weaker c.is_changed_by_id.result _ _ (λ told is. λ t stands. rw (c.in-Changes.is, ← c.name_of.ensures, ← c.named_item-under.ensures t stands) (is t stands)) c.is_changed_by_id.ensures
