use Rattle.std.proofs.Common.{ap, ◌∙◌, ◌++◌, map}
use Rattle.std.specs.Prelude.{flat_map}
use Rattle.crush_since.specs.Classes.{change_of_class}
use Rattle.crush_since.specs.ClassesSeen.{class_change_data}
use Rattle.crush_since.specs.CollectedSeen.{use_data}
use Rattle.crush_since.proofs.since.classes.class_changes.Goals as goal

pub returns : goal.returns
returns g c = λ t u a b.
    c.in_ok-push_changes.ensures ∙ (λ k. map class_change_data (c.new-changes.ensures.items k) ++ flat_map change_of_class (map use_data (c.as_slice.ensures.value k)))
    ∙ ap (flat_map change_of_class) (c.in_ok-uses.ensures t u a b)
