use Rattle.crush_script.proofs.PlacedLaws as laws
use Rattle.crush_script.proofs.law.placed_is_read.Goals as goal

pub returns : goal.returns
returns c = laws.placed_is_read
