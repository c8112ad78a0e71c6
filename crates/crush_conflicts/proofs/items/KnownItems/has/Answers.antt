use Rattle.std.proofs.Common.{◌∙◌}
use Rattle.crush_conflicts.proofs.ItemLaws.{seen_there}
use Rattle.crush_conflicts.proofs.items.KnownItems.has.Goals as goal

pub returns : goal.returns
returns g c = λ t stands. c.is_some.ensures ∙ seen_there t c.args.id.now c.find.result (c.find.ensures t stands)
