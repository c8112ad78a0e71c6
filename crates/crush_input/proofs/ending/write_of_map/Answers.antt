use Rattle.std.proofs.Common.{append-nil}
use Rattle.crush_input.proofs.ending.write_of_map.Goals as goal

pub returns : goal.returns
returns g c = rw (c.as_slice.ensures, c.map_word.ensures, append-nil c.args.what.now) at c.put_all.ensures.writes
