use Rattle.crush_input.specs.Origins.{origin_of}
use Rattle.crush_input.proofs.Noted.{place_noted}
use Rattle.crush_input.proofs.notes.stopped_by.Goals as goal

pub returns-in-Ok-clause-noted : goal.returns-in-Ok-clause-noted
returns-in-Ok-clause-noted c = place_noted c.args.explain (origin_of c.args.origins.now) c.args.bytes.now c.args.fault _ c.in-Ok.ensures
