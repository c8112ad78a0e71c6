use Rattle.std.proofs.Common.{append_assoc}
use Rattle.crush_input.proofs.ending.write_conflicts.Goals as goal

pub returns : goal.returns
returns g c =
    let w = rw (c.as_slice.ensures, c.as_bytes-count.ensures.value, c.format.ensures.text, c.as_slice-2.ensures) at c.put_all.ensures.writes in
    simp append_assoc w
