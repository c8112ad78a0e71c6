use Rattle.crush_since.proofs.KindPairs.{kinds_compared}
use Rattle.crush_since.proofs.since.settings.same_kinds.Goals as goal

pub returns : goal.returns
returns c = kinds_compared _ c.kinds.result.now.entries c.kinds-2.result.now.entries c.args.old.now c.args.new.now c.eq.ensures c.kinds.ensures c.kinds-2.ensures
