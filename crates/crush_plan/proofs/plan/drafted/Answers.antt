use Rattle.crush_plan.proofs.Going.{draft_of}
use Rattle.crush_plan.proofs.plan.drafted.Goals as goal

pub returns : goal.returns
returns g c = draft_of _ c.improve.new.draft c.new.ensures.items c.in_ok-try_copy.ensures.setting c.in_ok-try_copy.ensures.stands c.in_ok-improve.ensures
