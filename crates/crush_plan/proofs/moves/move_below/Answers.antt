use Rattle.crush_plan.proofs.Going.{stays_here}
use Rattle.crush_plan.proofs.moves.move_below.Goals as goal

pub returns-in_default : goal.returns-in_default
returns-in_default g c = stays_here c.args.draft.now

pub returns-in_default-bucket_named-2 : goal.returns-in_default-bucket_named-2
returns-in_default-bucket_named-2 g c = stays_here c.args.draft.now
