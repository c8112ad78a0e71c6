use Rattle.std.proofs.Common.{◌∙◌, [], ◌∷◌, ap, arith, length-append}
use Rattle.crush_editor.specs.History.{slip}
use Rattle.crush_editor.proofs.Seats.{missed_all, answered_all, guards_all}
use Rattle.crush_editor.proofs.editor.Editor.submit_copied.Goals as goal

pub invariant_of-seat-in-Err : goal.invariant_of-seat-in-Err
invariant_of-seat-in-Err g c =
    let s = c.seat.inside in
    let e = c.submit-outcome.ensures in
    let u = c.in-Err.ensures.unchanged in
    let a = missed_all g.N.Desk.gauge g.N.Desk.opening s.operator s.slips.items _ c.deref_mut.result.now c.submit-outcome.new.self c.submit-outcome.new.reader e.table e.opening (ap (λ b. b.history) u.0) e.seen e.begins e.legal c.seat.invariant.4 in
    rw c.new.ensures.slips (a.0, a.1, e.parts ∙ c.seat.invariant.2, ap (λ x. x.amount) u.1 ∙ c.seat.invariant.3, a.2)

pub returns-in-Err-clause-err : goal.returns-in-Err-clause-err
returns-in-Err-clause-err g c =
    let s = c.seat.inside in
    let e = c.submit-outcome.ensures in
    let u = c.in-Err.ensures.unchanged in
    let a = missed_all g.N.Desk.gauge g.N.Desk.opening s.operator s.slips.items _ c.deref_mut.result.now c.submit-outcome.new.self c.submit-outcome.new.reader e.table e.opening (ap (λ b. b.history) u.0) e.seen e.begins e.legal c.seat.invariant.4 in
    rw (← c.seat.view_is, c.new.ensures.slips) a.3

pub invariant_of-seat-2 : goal.invariant_of-seat-2
invariant_of-seat-2 g c =
    let s = c.seat.inside in
    let e = c.submit-outcome.ensures in
    let x = c.in-Ok-outcome.answer in
    let b = c.deref_mut.result.now in
    let a = answered_all g.N.Desk.gauge g.N.Desk.opening s.operator s.slips.items _ c.args.call x b c.submit-outcome.new.self c.submit-outcome.new.reader e.table e.opening c.in-Ok-outcome.ensures.history e.seen e.begins e.legal c.seat.invariant.4 in
    rw (c.push_reserved.ensures.items, c.new.ensures.slips, c.into_slip.ensures, c.in-Ok.ensures.copy)
    (a.0, a.1, e.parts ∙ c.seat.invariant.2, (let l = length-append s.slips.items (slip c.args.call x ∷ []) in let m = c.seat.invariant.3 in let n = c.in-Ok-outcome.ensures.counted in omega arith), a.2)

pub returns-clause-ok : goal.returns-clause-ok
returns-clause-ok g c =
    let s = c.seat.inside in
    let e = c.submit-outcome.ensures in
    let x = c.in-Ok-outcome.answer in
    let b = c.deref_mut.result.now in
    let a = answered_all g.N.Desk.gauge g.N.Desk.opening s.operator s.slips.items _ c.args.call x b c.submit-outcome.new.self c.submit-outcome.new.reader e.table e.opening c.in-Ok-outcome.ensures.history e.seen e.begins e.legal c.seat.invariant.4 in
    rw (← c.seat.view_is, c.push_reserved.ensures.items, c.new.ensures.slips, c.into_slip.ensures, c.in-Ok.ensures.copy) a.3

pub returns-clause-guarded : goal.returns-clause-guarded
returns-clause-guarded g c =
    let s = c.seat.inside in
    let e = c.submit-outcome.ensures in
    let x = c.in-Ok-outcome.answer in
    let b = c.deref_mut.result.now in
    let a = guards_all g.N.Desk.gauge g.N.Desk.opening s.operator s.slips.items _ c.args.call x b c.submit-outcome.new.self c.submit-outcome.new.reader e.table e.opening c.in-Ok-outcome.ensures.history e.seen e.begins e.legal in
    rw (← c.seat.view_is, c.push_reserved.ensures.items, c.new.ensures.slips, c.into_slip.ensures, c.in-Ok.ensures.copy) a
