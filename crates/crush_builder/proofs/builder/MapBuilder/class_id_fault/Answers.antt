use Rattle.std.proofs.Common.{[], ◌∷◌, ◌∙◌}
use Rattle.crush_builder.specs.declared.fault.BuildFault.TheVariants.{DuplicateId, DuplicateName, TooMany}
use Rattle.crush_builder.specs.Faults.{first_fault}
use Rattle.crush_builder.proofs.builder.MapBuilder.class_id_fault.Goals as goal

pub returns : goal.returns
returns g c = λ d i. c.duplicate_or_full.ensures ∙ (λ j. first_fault ((DuplicateId, c.has_bucket_id.ensures d i j) ∷ ((DuplicateName, c.has_class.ensures d i j) ∷ ((TooMany, c.is_full_of_class_ids.ensures d i j) ∷ []))))
