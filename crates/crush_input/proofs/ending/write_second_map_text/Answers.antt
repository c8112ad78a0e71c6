use Rattle.std.proofs.Common.{append_assoc}
use Rattle.crush_input.proofs.ending.write_second_map_text.Goals as goal

pub returns : goal.returns
returns g c =
    let w = rw (c.as_slice.ensures, c.map_word.ensures, c.as_slice-2.ensures, c.as_bytes-place.ensures.value, c.format.ensures.text, c.as_slice-3.ensures, c.as_bytes-name.ensures.value, c.name.ensures, c.as_slice-4.ensures) at c.put_all.ensures.writes in
    simp append_assoc w
