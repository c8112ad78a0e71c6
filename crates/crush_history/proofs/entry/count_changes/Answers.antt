use Rattle.std.proofs.Common.{ap, sym, ◌∙◌, arith}
use Rattle.std.proofs.lemmas.List.{take_all}
use Rattle.crush_history.specs.History.{changes}
use Rattle.crush_history.proofs.EntryLines.{changes-take, no_changes}
use Rattle.crush_history.proofs.entry.count_changes.Goals as goal
use Rattle.crush_history.proofs.entry.count_changes.Goals.{then-is_change, else-is_change}

pub loop-entry-init : goal.loop-entry-init
loop-entry-init c = record { few = omega arith; count = no_changes }

pub loop-entry-preserved : goal.loop-entry-preserved
loop-entry-preserved c =
    let more = changes-take c.args.entries.now c.loop-entry.entry-index c.entry-item.result c.loop-entry-test.true c.entry-item.is in
    let so_far = c.loop-entry.invariant.count in
    elim c.if-is_change.branch [
      | then-is_change w ↦ let told = rw (sym c.is_change.ensures ∙ w.if-is_change.true) at more in record { few = omega (arith, w.count-is, c.loop-entry.invariant.few); count = omega (arith, w.count-is, told, so_far) }
      | else-is_change w ↦ let told = rw (sym c.is_change.ensures ∙ w.if-is_change.false) at more in record { few = omega (arith, w.count-is, c.loop-entry.invariant.few); count = omega (arith, w.count-is, told, so_far) }
    ]

pub returns : goal.returns
returns c = c.loop-entry.invariant.count ∙ ap (λ xs. changes xs) (take_all c.loop-entry.entry-index c.args.entries.now (omega arith))
