use Rattle.std.proofs.Common.{◌∙◌, arith}
use Rattle.crush_units.proofs.Weights.{grows}
use Rattle.crush_units.proofs.weight.value_after.Goals as goal

pub overflow_mul-number : goal.overflow_mul-number
overflow_mul-number c =
    let next = grows c.args.start c.loop-digit.number c.loop-digit.digit-index c.args.digits.now c.loop-digit-test.true c.requires.room c.loop-digit.invariant.digits c.loop-digit.invariant.small in
    omega (arith, next.fits)

pub overflow_add-number : goal.overflow_add-number
overflow_add-number c =
    let next = grows c.args.start c.loop-digit.number c.loop-digit.digit-index c.args.digits.now c.loop-digit-test.true c.requires.room c.loop-digit.invariant.digits c.loop-digit.invariant.small in
    omega (arith, next.fits)

pub loop-digit-preserved : goal.loop-digit-preserved
loop-digit-preserved c =
    let next = grows c.args.start c.loop-digit.number c.loop-digit.digit-index c.args.digits.now c.loop-digit-test.true c.requires.room c.loop-digit.invariant.digits c.loop-digit.invariant.small in
    record { value = next.value ∙ c.loop-digit.invariant.value; small = next.small; digits = next.others }
