use Rattle.std.proofs.Common.{[], ◌∷◌, ◌∙◌}
use Rattle.crush_builder.specs.declared.fault.BuildFault.TheVariants.{DuplicateName, TooMany}
use Rattle.crush_builder.specs.Faults.{first_fault}
use Rattle.crush_builder.proofs.builder.MapBuilder.tunable_fault.Goals as goal

pub returns : goal.returns
returns g c = λ d i. c.duplicate_or_full.ensures ∙ (λ j. first_fault ((DuplicateName, c.has_tunable.ensures d i j) ∷ ((TooMany, c.is_full_of_tunables.ensures d i j) ∷ [])))
