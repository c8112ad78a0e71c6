use Rattle.std.proofs.Common.{ap, sym, ◌∙◌, arith}
use Rattle.std.proofs.lemmas.List.{take_all}
use Rattle.crush_history.specs.Refused.{refusals}
use Rattle.crush_history.proofs.RefusedLines.{refusals-take, no_refusals}
use Rattle.crush_history.proofs.refused.count_refused.Goals as goal
use Rattle.crush_history.proofs.refused.count_refused.Goals.{then-is_refused, else-is_refused}

pub loop-entry-init : goal.loop-entry-init
loop-entry-init c = record { few = omega arith; count = no_refusals }

pub loop-entry-preserved : goal.loop-entry-preserved
loop-entry-preserved c =
    let more = refusals-take c.args.entries.now c.loop-entry.entry-index c.entry-item.result c.loop-entry-test.true c.entry-item.is in
    let so_far = c.loop-entry.invariant.count in
    elim c.if-is_refused.branch [
      | then-is_refused w ↦ let told = rw (sym c.is_refused.ensures ∙ w.if-is_refused.true) at more in record { few = omega (arith, w.count-is, c.loop-entry.invariant.few); count = omega (arith, w.count-is, told, so_far) }
      | else-is_refused w ↦ let told = rw (sym c.is_refused.ensures ∙ w.if-is_refused.false) at more in record { few = omega (arith, w.count-is, c.loop-entry.invariant.few); count = omega (arith, w.count-is, told, so_far) }
    ]

pub returns : goal.returns
returns c = c.loop-entry.invariant.count ∙ ap (λ xs. refusals xs) (take_all c.loop-entry.entry-index c.args.entries.now (omega arith))
