-- The result of the builder's method, as an option.
use Rattle.std.proofs.Common.{sym, ◌∙◌}
use Rattle.crush_builder.specs.Building.{item_named}
use Rattle.crush_text.proofs.MemoryAlone.{closed_so}
use Rattle.crush_text.proofs.Weighed.{some_named, none_named}
use Rattle.crush_text.proofs.reader.items.item_named.Goals as goal

pub returns-in-Ok-clause-value : goal.returns-in-Ok-clause-value
returns-in-Ok-clause-value g c = λ d h. some_named (item_named d c.args.name.now) c.in-Ok.id (sym c.in-Ok.is ∙ c.item_named.ensures.value d h)

pub returns-in-Err-clause-value : goal.returns-in-Err-clause-value
returns-in-Err-clause-value g c = λ d h. none_named (item_named d c.args.name.now) c.in-Err.field-0 (sym c.in-Err.is ∙ c.item_named.ensures.value d h)

pub returns-in-Ok-clause-closed : goal.returns-in-Ok-clause-closed
returns-in-Ok-clause-closed g c = λ d h. closed_so _ d _ h (c.in-Ok.ensures.there d h) c.in-Ok.ensures.closed
