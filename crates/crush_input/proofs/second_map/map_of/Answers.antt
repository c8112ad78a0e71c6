use Rattle.std.proofs.Common.{arith}
use Rattle.crush_input.proofs.second_map.map_of.Goals as goal

-- the map that was read is a map of the text
pub returns-in-Ok-clause-map : goal.returns-in-Ok-clause-map
returns-in-Ok-clause-map g c =
    let m = c.in-Ok.ensures.map in
    record { short = omega arith; table = m.0; adjusted = _; text = m.1; stands = m.2 }
