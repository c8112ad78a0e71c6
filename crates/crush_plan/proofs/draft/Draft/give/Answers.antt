use Rattle.crush_plan.proofs.Going.{stays_here}
use Rattle.crush_plan.proofs.draft.Draft.give.Goals as goal

pub make-requires : goal.make-requires
make-requires g c = record { allowed = c.in_ok-is_allowed.ensures c.if-is_allowed.true }

pub returns-else-is_allowed : goal.returns-else-is_allowed
returns-else-is_allowed g c = stays_here c.args.self.now
