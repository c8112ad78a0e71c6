use Rattle.std.proofs.Common.{◌∙◌, [], ap, arith}
use Rattle.crush_editor.specs.Seat.{SeatData, seat_data}
use Rattle.crush_history.specs.Turns.{calls_of}
use Rattle.crush_run.proofs.Lists.{element_at}
use Rattle.crush_run.proofs.Carry.{carries}
use Rattle.crush_run.proofs.at_once.operate.Goals as goal

pub close-requires-clause-order : goal.close-requires-clause-order
close-requires-clause-order g c = λ k less.
    let a = c.in_ok-seats.ensures.count in let b = c.in_ok-finished.ensures.count in
    let v = c.in_ok-seats.seats.ok in let w = c.in_ok-finished.finished.ok in let u = c.args.scripts.ok in
    let f = element_at c.in_ok-finished.finished.items k (omega arith) in
    let e = element_at c.args.scripts.items k (omega arith) in
    ap (λ (x : SeatData). x.operator) (c.in_ok-seats.ensures.each k (seat_data 0 [] []) f.0 (omega arith)).0 ∙ (c.in_ok-finished.ensures.each k f.0 e.0 (omega arith)).operator

pub returns-clause-run : goal.returns-clause-run
returns-clause-run g c =
    let a = c.in_ok-seats.ensures.count in let b = c.in_ok-finished.ensures.count in
    let v = c.in_ok-seats.seats.ok in let w = c.in_ok-finished.finished.ok in let u = c.args.scripts.ok in
    carries g.N.Desk.opening c.close.result.map c.close.result.history.items c.args.scripts.items c.in_ok-seats.seats.items c.close.ensures.history (omega arith)
    (λ k e less.
    let f = element_at c.in_ok-finished.finished.items k (omega arith) in
    let s = c.in_ok-seats.ensures.each k (seat_data 0 [] []) f.0 (omega arith) in
    ap (λ (x : SeatData). calls_of x.slips) s.0 ∙ (c.in_ok-finished.ensures.each k f.0 e (omega arith)).calls s.1)
