use Rattle.std.proofs.Common.{◌∙◌}
use Rattle.std.specs.Option.{option_map}
use Rattle.crush_units.specs.Id.{item_number}
use Rattle.crush_json.specs.PairDocument.{either_id}
use Rattle.crush_json.proofs.changes.number_of.Goals as goal

pub returns : goal.returns
returns g c = c.number_of_either.ensures ∙ (λ i. option_map item_number (either_id (c.before-before.ensures i) (c.after-after.ensures i)))
