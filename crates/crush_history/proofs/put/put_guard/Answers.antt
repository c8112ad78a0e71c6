use Rattle.crush_history.proofs.Putting.{three_parts}
use Rattle.crush_history.proofs.put.put_guard.Goals as goal

pub returns-clause-writes : goal.returns-clause-writes
returns-clause-writes g c = let h = rw (three_parts, c.as_slice.ensures, c.as_bytes-seen.ensures.value, c.format.ensures.text, c.as_slice-2.ensures) at c.put_all.ensures.writes in h
