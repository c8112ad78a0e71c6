use Rattle.std.proofs.Common.{◌++◌, [], ◌∷◌, ap, sym, arith, take, ◌∙◌}
use Rattle.std.proofs.lemmas.List.{map_push, take_all, take_more}
use Rattle.crush_history.specs.History.{AnsweredData}
use Rattle.crush_history.specs.Turns.{calls_of}
use Rattle.crush_run.proofs.Lists.{dropped}
use Rattle.crush_run.proofs.worker.Crew.work.Goals as goal

pub loop-call-preserved : goal.loop-call-preserved
loop-call-preserved g c =
    let n = c.loop-call.number in
    let calls = c.args.calls.items in
    let x = c.in-Some.call in
    let steps = c.in-Some.ensures.steps in
    let one = steps.1 in
    let i = c.loop-call.invariant in
    let left = i.3 in
    let ok = c.args.calls.ok in
    let at = dropped calls _ _ x x n i.2 steps.0 (omega arith) in
    let made = c.in-Ok.ensures.ok in (
      made.operator ∙ i.0,
      ap calls_of made.slips ∙ map_push (λ (a : AnsweredData). a.call) c.loop-call.seat.slips _ ∙ ap (λ xs. xs ++ x ∷ []) i.1 ∙ ap (λ y. take n calls ++ y ∷ []) at.1 ∙ sym (take_more calls n x (omega arith)),
      at.0,
      omega arith,
    )

pub returns : goal.returns
returns g c =
    let i = c.loop-call.invariant in
    let left = i.3 in
    let none = c.in-None.ensures.steps.0 in
    record {
      operator = i.0;
      calls = λ _. i.1 ∙ take_all c.loop-call.number c.args.calls.items (omega arith);
    }
