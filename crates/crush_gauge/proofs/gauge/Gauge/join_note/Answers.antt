use Rattle.std.proofs.Common.{rules}
use Rattle.crush_gauge.proofs.Steps.{a_seat_joins, a_seat_compares}
use Rattle.crush_gauge.proofs.gauge.Gauge.join_note.Goals as goal

pub join_seat-requires : goal.join_seat-requires
join_seat-requires g c = (search rules, search rules, search rules, search rules, a_seat_joins _ _ _ _ _ _ _ _ c.requires.either c.note.invariant.1)

pub load-requires : goal.load-requires
load-requires g c = (search rules, search rules, a_seat_compares _ _ _ _ _ _ _ c.note.inside.seat.me.0 _ _ c.requires.either c.note.invariant.1 c.join_seat.ensures.2)
