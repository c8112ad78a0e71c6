use Rattle.std.proofs.Common.{append_assoc}
use Rattle.crush_input.proofs.verb_maps.write_line.Goals as goal

pub returns-in-Text : goal.returns-in-Text
returns-in-Text g c =
    let w = rw (c.as_slice-start.ensures, c.map_prefix.ensures, c.as_slice.ensures, c.as_bytes-place.ensures.value, c.format.ensures.text, c.as_slice-in-Text.ensures, c.as_bytes-name.ensures.value, c.name.ensures, c.as_slice-in-Text-2.ensures) at c.put_all.ensures.writes in
    rw c.in-Text.is (simp append_assoc w)

pub returns-in-Cut : goal.returns-in-Cut
returns-in-Cut g c = rw c.in-Cut.is (rw (c.as_slice-start.ensures, c.map_prefix-in-Cut.ensures) at c.put_all-in-Cut.ensures.writes)

pub returns-in-TooLong : goal.returns-in-TooLong
returns-in-TooLong g c = rw c.in-TooLong.is (rw (c.as_slice-start.ensures, c.map_prefix-in-TooLong.ensures) at c.put_all-in-TooLong.ensures.writes)

pub returns-in-Read : goal.returns-in-Read
returns-in-Read g c = rw c.in-Read.is (rw (c.as_slice-start.ensures, c.map_prefix-in-Read.ensures) at c.put_all-in-Read.ensures.writes)

pub returns-in-Memory : goal.returns-in-Memory
returns-in-Memory g c = rw c.in-Memory.is c.put.ensures.writes
