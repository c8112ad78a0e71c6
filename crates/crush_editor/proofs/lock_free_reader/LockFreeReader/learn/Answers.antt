use Rattle.crush_editor.proofs.Seats.{sees_more, after_learning, note_is_seen}
use Rattle.crush_editor.proofs.lock_free_reader.LockFreeReader.learn.Goals as goal

pub invariant_of-seat : goal.invariant_of-seat
invariant_of-seat g c =
    let s = c.seat.inside in let i = c.seat.invariant in
    let a = sees_more g.N.Desk.gauge g.N.Desk.opening s.operator s.slips.items s.reader c.learn.new.seat i.0 i.4 c.learn.ensures.table (after_learning _ _ _ _ i.1 c.note.invariant.1 c.learn.ensures.learns) in
    (a.0, a.1, i.2, i.3, a.2)

pub returns-clause-seat : goal.returns-clause-seat
returns-clause-seat g c =
    let s = c.seat.inside in let i = c.seat.invariant in
    let a = sees_more g.N.Desk.gauge g.N.Desk.opening s.operator s.slips.items s.reader c.learn.new.seat i.0 i.4 c.learn.ensures.table (after_learning _ _ _ _ i.1 c.note.invariant.1 c.learn.ensures.learns) in
    rw (← c.seat.view_is) a.3

pub returns-clause-note : goal.returns-clause-note
returns-clause-note g c = rw (← c.note.view_is) (note_is_seen _ _ _ _ c.seat.invariant.1 c.note.invariant.1 c.learn.ensures.learns)
