use Rattle.crush_reasons.proofs.LawCreated.{created_are_fresh}
use Rattle.crush_reasons.proofs.created.created_buckets_are_new_stops.Goals as goal

pub returns : goal.returns
returns c = created_are_fresh
