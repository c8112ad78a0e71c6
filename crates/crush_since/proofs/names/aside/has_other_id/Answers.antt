use Rattle.std.proofs.Common.{◌∙◌}
use Rattle.crush_since.specs.Aside.{has_other_id, of_pair}
use Rattle.crush_since.proofs.names.aside.has_other_id.Goals as goal

pub returns : goal.returns
returns g c = c.is_other_id.ensures ∙ (λ i. of_pair has_other_id (record { before = c.before-2.ensures i; after = c.after.ensures i }))
