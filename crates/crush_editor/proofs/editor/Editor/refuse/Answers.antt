use Rattle.crush_editor.proofs.Seats.{seat_later, missed}
use Rattle.crush_editor.proofs.editor.Editor.refuse.Goals as goal

pub invariant_of-seat : goal.invariant_of-seat
invariant_of-seat g c =
    let s = c.seat.inside in
    let e = c.refuse.ensures in
    (e.table, e.reader, c.seat.invariant.2, c.seat.invariant.3, seat_later g.N.Desk.opening s.operator s.slips.items _ _ c.seat.invariant.4 e.begins e.legal)

pub returns-clause-seat : goal.returns-clause-seat
returns-clause-seat g c =
    let s = c.seat.inside in
    let e = c.refuse.ensures in
    rw (← c.seat.view_is) (missed g.N.Desk.opening s.operator s.slips.items _ _ c.seat.invariant.4 e.begins e.legal)
