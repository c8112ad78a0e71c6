use Rattle.std.proofs.Common.{◌∙◌}
use Rattle.crush_items.specs.SeenItem.{seen_data}
use Rattle.crush_since.proofs.FoundLaws.{some_found}
use Rattle.crush_since.proofs.changes.seen.is_there.Goals as goal

pub returns : goal.returns
returns g c = c.is_some.ensures ∙ some_found seen_data _ _ c.after.ensures
