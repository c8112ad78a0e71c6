use Rattle.std.proofs.Common.{◌∙◌}
use Rattle.crush_conflicts.proofs.items.KnownItems.find.Goals as goal

pub returns : goal.returns
returns g c = λ t stands. c.seen_of.ensures ∙ c.item.ensures t stands
