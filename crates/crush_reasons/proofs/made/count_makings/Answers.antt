use Rattle.std.proofs.Common.{◌≡◌, get_or, ap, refl, sym, ◌∙◌, arith}
use Rattle.std.proofs.lemmas.List.{take_all}
use Rattle.std.proofs.lemmas.List.Sums.{count_by_more_no, count_by_more_yes}
use Rattle.crush_reasons.specs.Made.{makes_more, makings}
use Rattle.crush_reasons.proofs.made.count_makings.Goals as goal
use Rattle.crush_reasons.proofs.made.count_makings.Goals.{then-makes_more, else-makes_more}

pub loop-entry-init : goal.loop-entry-init
loop-entry-init c = record { few = omega arith; count = refl }

-- one more entry adds 1 if it created more buckets than it has `add-bucket` commands, and otherwise nothing
pub loop-entry-preserved : goal.loop-entry-preserved
loop-entry-preserved c =
    let xs = c.args.entries.now in
    let i = c.loop-entry.entry-index in
    let e = c.entry-item.result in
    let here : makes_more (get_or xs i e) ≡ makes_more e = ap makes_more (sym c.entry-item.is) in
    let so_far = c.loop-entry.invariant.count in
    elim c.if-makes_more.branch [
      | then-makes_more w ↦
          let more = count_by_more_yes makes_more xs i e c.loop-entry-test.true (here ∙ sym c.makes_more.ensures ∙ w.if-makes_more.true) in
          record { few = omega (arith, w.count-is, c.loop-entry.invariant.few); count = omega (arith, w.count-is, more, so_far) }
      | else-makes_more w ↦
          let more = count_by_more_no makes_more xs i e c.loop-entry-test.true (here ∙ sym c.makes_more.ensures ∙ w.if-makes_more.false) in
          record { few = omega (arith, w.count-is, c.loop-entry.invariant.few); count = omega (arith, w.count-is, more, so_far) }
    ]

pub returns : goal.returns
returns c = c.loop-entry.invariant.count ∙ ap makings (take_all c.loop-entry.entry-index c.args.entries.now (omega arith))
