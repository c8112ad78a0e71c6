use Rattle.std.proofs.Common.{◌∙◌}
use Rattle.crush_since.specs.Changes.{has_some}
use Rattle.crush_since.specs.ItemParts.{item_line}
use Rattle.crush_since.proofs.changes.seen.is_told.Goals as goal

pub returns : goal.returns
returns g c = λ s p i. c.is_listed.ensures s p i ∙ (λ k. has_some (item_line s p i (c.before-before.ensures k) (c.after-after.ensures k) (c.have_same_class_ids.ensures k)))
