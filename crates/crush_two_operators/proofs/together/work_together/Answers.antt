use denote.Exit.{no}
use denote.Param.Send.{param_send, arg_send}
use Rattle.std.proofs.Common.{arith}
use Rattle.crush_two_operators.proofs.Crossing.{worker_send}
use Rattle.crush_two_operators.proofs.Order.{of_some, shorter, are_taken, put_back, back_in_order, worked_by_two}
use Rattle.crush_two_operators.proofs.together.work_together.Goals as goal

pub join-one-requires-send-F : goal.join-one-requires-send-F
join-one-requires-send-F g c κs within = param_send _ _ (arg_send _ no _ (worker_send g.row.N g.row.R g.row.W g.N.Desk g.N.Ledger _ _ _ _ c.type_bounds.sync-R c.type_bounds.sync-W _))

pub close-requires-clause-count : goal.close-requires-clause-count
close-requires-clause-count g c =
    let n = c.in_ok-editor.ensures.count in
    let a = shorter _ _ _ _ c.in_ok-two.ensures c.pop.ensures.len in
    let b = shorter _ _ _ _ c.in_ok-one.ensures c.pop-2.ensures.len in
    let d = c.in_ok-push.ensures.len in let e = c.in_ok-push-2.ensures.len in
    omega arith

pub close-requires-clause-order : goal.close-requires-clause-order
close-requires-clause-order g c =
    let n = c.in_ok-editor.ensures.count in
    let v = c.in_ok-editor.seats.ok in
    let two = c.requires.parts.1 in
    let taken = are_taken _ _ _ _ _ _ _ c.pop.ensures.items c.in_ok-two.ensures c.pop-2.ensures.items c.in_ok-one.ensures (omega arith)
    (λ k less. c.in_ok-editor.ensures.seats k (omega arith)) in
    let first = of_some _ _ _ c.in_ok-one-2.ensures c.join-one.ensures.first in
    let second = of_some _ _ _ c.in_ok-two-2.ensures c.join-one.ensures.second in
    back_in_order _ _ _ _ _ _ taken (put_back _ _ _ _ _ _ _ taken c.in_ok-push.ensures.items c.in_ok-push-2.ensures.items) first.0 second.0

pub returns-clause-seats : goal.returns-clause-seats
returns-clause-seats g c =
    let n = c.in_ok-editor.ensures.count in
    let v = c.in_ok-editor.seats.ok in
    let two = c.requires.parts.1 in
    let taken = are_taken _ _ _ _ _ _ _ c.pop.ensures.items c.in_ok-two.ensures c.pop-2.ensures.items c.in_ok-one.ensures (omega arith)
    (λ k less. c.in_ok-editor.ensures.seats k (omega arith)) in
    let first = of_some _ _ _ c.in_ok-one-2.ensures c.join-one.ensures.first in
    let second = of_some _ _ _ c.in_ok-two-2.ensures c.join-one.ensures.second in
    worked_by_two _ _ g.W.Work.done _ _ _ _ _ _ _ _ _ taken (put_back _ _ _ _ _ _ _ taken c.in_ok-push.ensures.items c.in_ok-push-2.ensures.items) first.1 second.1 c.close.ensures.history
