use Rattle.std.proofs.Common.{[], ◌∷◌, ◌∙◌}
use Rattle.crush_builder.specs.declared.fault.BuildFault.TheVariants.{DuplicateId, DuplicateName, TooMany}
use Rattle.crush_builder.specs.Faults.{first_fault}
use Rattle.crush_builder.proofs.builder.MapBuilder.device_fault.Goals as goal

pub returns : goal.returns
returns g c = λ d i. c.duplicate_or_full.ensures ∙ (λ j. first_fault ((DuplicateId, c.has_device.ensures d i j) ∷ ((DuplicateName, c.has_name.ensures d i j) ∷ ((TooMany, c.is_full_of_devices.ensures d i j) ∷ []))))
