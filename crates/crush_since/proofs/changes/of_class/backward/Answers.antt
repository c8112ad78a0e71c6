use Rattle.std.proofs.Common.{◌≡◌, ◌∙◌, ◌-◌, ap, sym, arith, reverse, drop}
use Rattle.crush_since.specs.ClassChanges.{staying}
use Rattle.crush_since.specs.ClassChangesSeen.{kept_before, row_counts, row_depth}
use Rattle.crush_since.proofs.ClassChangeLaws.{stays_from_here}
use Rattle.crush_since.proofs.SortedItems.{all_dropped}
use Rattle.crush_since.proofs.changes.of_class.backward.Goals as goal

pub loop-at-init : goal.loop-at-init
loop-at-init c = (omega arith, ap reverse c.new-kept.ensures.items ∙ sym (ap (staying (row_counts c.args.weights.now) row_depth) (all_dropped c.args.rows.now)))

pub row_at-requires : goal.row_at-requires
row_at-requires c = omega (arith, c.loop-at.invariant.0, c.loop-at-test.true)

pub loop-at-preserved : goal.loop-at-preserved
loop-at-preserved c =
    let counts = row_counts c.args.weights.now in
    let rows = c.args.rows.now in
    let at = c.loop-at.at in
    let row = c.row_at.result.now in (
      omega (arith, c.loop-at.invariant.0),
      c.in_ok-keep_before.ensures ∙ ap (kept_before counts row_depth row) c.loop-at.invariant.1
          ∙ stays_from_here counts row_depth rows (at - 1) at row (omega (arith, c.loop-at.invariant.0, c.loop-at-test.true)) (omega (arith, c.loop-at-test.true)) c.row_at.ensures,
    )

pub returns : goal.returns
returns c =
    let all : c.loop-at.at ≡ 0 = omega (arith, c.loop-at-test.false) in
    c.loop-at.invariant.1 ∙ ap (λ n. staying (row_counts c.args.weights.now) row_depth (drop n c.args.rows.now)) all
