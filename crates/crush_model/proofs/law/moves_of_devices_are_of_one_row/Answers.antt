use Rattle.crush_units.specs.declared.id.ItemId.TheVariants.{Device}
use Rattle.crush_model.proofs.Relocated.{relocate_device}
use Rattle.crush_model.proofs.law.moves_of_devices_are_of_one_row.Goals as goal

pub returns : goal.returns
returns c t l p d w r = relocate_device t (Device d.id) p d w r l
