use Rattle.crush_compare.proofs.PartLaws.{steps_are_part}
use Rattle.crush_compare.proofs.law.the_steps_of_an_item_are_a_part.Goals as goal

pub returns : goal.returns
returns c = steps_are_part
