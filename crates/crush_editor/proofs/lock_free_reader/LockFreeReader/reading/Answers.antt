use Rattle.crush_editor.proofs.Seats.{sees_more, after_reading, tells_few, tells_seen}
use Rattle.crush_editor.proofs.lock_free_reader.LockFreeReader.reading.Goals as goal

pub invariant_of-seat : goal.invariant_of-seat
invariant_of-seat g c =
    let s = c.seat.inside in let i = c.seat.invariant in
    let a = sees_more g.N.Desk.gauge g.N.Desk.opening s.operator s.slips.items s.reader c.read.new.seat i.0 i.4 c.read.ensures.table (after_reading _ _ _ _ _ i.1 c.read.ensures.reads) in
    (a.0, a.1, i.2, i.3, a.2)

pub returns-clause-seat : goal.returns-clause-seat
returns-clause-seat g c =
    let s = c.seat.inside in let i = c.seat.invariant in
    let a = sees_more g.N.Desk.gauge g.N.Desk.opening s.operator s.slips.items s.reader c.read.new.seat i.0 i.4 c.read.ensures.table (after_reading _ _ _ _ _ i.1 c.read.ensures.reads) in
    rw (← c.seat.view_is) a.3

pub returns-clause-changes : goal.returns-clause-changes
returns-clause-changes g c = (tells_seen _ _ _ _ _ c.seat.invariant.1 c.read.ensures.reads).0

pub returns-clause-weight : goal.returns-clause-weight
returns-clause-weight g c = (tells_seen _ _ _ _ _ c.seat.invariant.1 c.read.ensures.reads).1

pub returns-clause-few : goal.returns-clause-few
returns-clause-few g c = tells_few _ _ _ _ _ c.seat.invariant.1 c.read.ensures.reads
