use Rattle.std.specs.Prelude.{None, Some}
use Rattle.crush_conflicts.proofs.ItemLaws.{seen_named}
use Rattle.crush_conflicts.proofs.items.KnownItems.name_of.Goals as goal

pub returns-in-Some : goal.returns-in-Some
returns-in-Some g c = λ t stands. seen_named t c.args.id (Some c.in-Some.item) (c.in-Some.ensures t stands)

pub returns-in-None : goal.returns-in-None
returns-in-None g c = λ t stands. seen_named t c.args.id None (c.in-None.ensures t stands)
