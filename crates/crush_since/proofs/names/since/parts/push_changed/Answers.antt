use Rattle.crush_since.proofs.PartLaws.{more_parts}
use Rattle.crush_since.proofs.names.since.parts.push_changed.Goals as goal

pub returns : goal.returns
returns c =
    more_parts _ _ _ _ _ (more_parts _ _ _ _ _ (more_parts _ _ _ _ _ (more_parts _ _ _ _ _ c.in_ok-push_type.ensures c.in_ok-push_place.ensures) c.in_ok-push_other_weight.ensures) c.in_ok-push_class.ensures) c.in_ok-push_alg.ensures
