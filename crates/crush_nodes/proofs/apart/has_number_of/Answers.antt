use Rattle.std.proofs.Common.{◌==◌, ◌∙◌}
use Rattle.crush_nodes.proofs.ApartSteps.{any_number}
use Rattle.crush_nodes.proofs.apart.has_number_of.Goals as goal

pub returns : goal.returns
returns g c = c.has_shadow_id.ensures ∙ any_number (λ b. b == c.args.class.now.id) c.args.class_ids.now
