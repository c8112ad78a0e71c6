use Rattle.std.proofs.Common.{◌≡◌, get_or, ap, refl, sym, ◌∙◌, arith}
use Rattle.std.specs.List.{count_by}
use Rattle.std.proofs.lemmas.List.{take_all}
use Rattle.std.proofs.lemmas.List.Sums.{count_by_more_no, count_by_more_yes}
use Rattle.crush_reasons.specs.Made.{is_add_bucket}
use Rattle.crush_reasons.proofs.made.count_add_buckets.Goals as goal
use Rattle.crush_reasons.proofs.made.count_add_buckets.Goals.{then-is_add_bucket, else-is_add_bucket}

pub loop-edit-init : goal.loop-edit-init
loop-edit-init c = record { few = omega arith; count = refl }

-- one more edit adds 1 if it is an `add-bucket`, and otherwise nothing
pub loop-edit-preserved : goal.loop-edit-preserved
loop-edit-preserved c =
    let xs = c.args.edits.now in
    let i = c.loop-edit.edit-index in
    let e = c.edit-item.result in
    let here : is_add_bucket (get_or xs i e) ≡ is_add_bucket e = ap is_add_bucket (sym c.edit-item.is) in
    let so_far = c.loop-edit.invariant.count in
    elim c.if-is_add_bucket.branch [
      | then-is_add_bucket w ↦
          let more = count_by_more_yes is_add_bucket xs i e c.loop-edit-test.true (here ∙ sym c.is_add_bucket.ensures ∙ w.if-is_add_bucket.true) in
          record { few = omega (arith, w.count-is, c.loop-edit.invariant.few); count = omega (arith, w.count-is, more, so_far) }
      | else-is_add_bucket w ↦
          let more = count_by_more_no is_add_bucket xs i e c.loop-edit-test.true (here ∙ sym c.is_add_bucket.ensures ∙ w.if-is_add_bucket.false) in
          record { few = omega (arith, w.count-is, c.loop-edit.invariant.few); count = omega (arith, w.count-is, more, so_far) }
    ]

pub returns : goal.returns
returns c = c.loop-edit.invariant.count ∙ ap (count_by is_add_bucket) (take_all c.loop-edit.edit-index c.args.edits.now (omega arith))
