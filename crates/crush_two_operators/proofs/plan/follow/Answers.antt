use Rattle.std.proofs.Common.{◌≡◌, ◌∙◌, length, slice_get, Some, refl, sym, arith}
use Rattle.std.proofs.lemmas.Option.{slice_get_read}
use Rattle.std.proofs.lemmas.List.Elements.{All-same}
use Rattle.crush_history.specs.History.{AnsweredData}
use Rattle.crush_two_operators.specs.Plan.{IsStep}
use Rattle.crush_two_operators.proofs.Order.{of_ok}
use Rattle.crush_two_operators.proofs.Following.{asked_more}
use Rattle.crush_two_operators.proofs.plan.follow.Goals as goal

pub returns-then-number-plan : goal.returns-then-number-plan
returns-then-number-plan g c =
    let sees = c.reading-last.ensures.seat in
    let seen = c.reading-last.ensures.changes in
    let past = c.if-number-plan.true in
    record {
      operator = sees.operator ∙ c.loop.invariant.0;
      calls = λ before. All-same (λ (a : AnsweredData). IsStep c.args.plan.now a.call) _ _ sees.slips (c.loop.invariant.1 before);
      done = omega (arith, seen, past);
    }

pub loop-preserved : goal.loop-preserved
loop-preserved g c =
    let plan = c.args.plan.now in
    let n = c.reading-last.result.changes in
    let e = c.index-plan-number.result in
    let less = c.if-number-plan.false in
    let found : slice_get plan n ≡ Some e = slice_get_read plan (length plan) n e refl (omega (arith, less)) c.index-plan-number.is in
    let answered = of_ok _ _ _ (sym c.in_ok-reply.ensures.value) c.submit.ensures.ok in
    let sees = c.reading-last.ensures.seat in (
      answered.operator ∙ sees.operator ∙ c.loop.invariant.0,
      λ before. asked_more _ plan _ _ _ _ n e found c.in_ok-call.ensures answered (All-same (λ (a : AnsweredData). IsStep plan a.call) _ _ sees.slips (c.loop.invariant.1 before)),
    )
