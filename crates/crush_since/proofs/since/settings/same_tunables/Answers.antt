use Rattle.crush_since.proofs.KindPairs.{tunables_compared}
use Rattle.crush_since.proofs.since.settings.same_tunables.Goals as goal

pub returns : goal.returns
returns c = tunables_compared _ _ _ _ _ _ _ c.eq.ensures c.as_slice.ensures.entries c.as_slice-2.ensures.entries c.tunables.ensures c.tunables-2.ensures
