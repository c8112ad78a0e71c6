use Rattle.std.proofs.Common.{sym, ◌∙◌, length, arith}
use Rattle.crush_units.proofs.Weights.{room_behind, few_digits}
use Rattle.crush_units.proofs.weight.Weight.read_bytes.Goals as goal

pub value_after-number-requires-2-clause-room : goal.value_after-number-requires-2-clause-room
value_after-number-requires-2-clause-room c =
    let few = few_digits 10 c.split_at.result.0.now (sym c.are_digits.ensures ∙ c.if-not-are_digits.false) in
    let many = few_digits 18 c.split_at-2.result.1.now (sym c.are_digits-2.ensures ∙ c.if-not-are_digits-2.false) in
    room_behind (length c.split_at.result.0.now) (length c.split_at-2.result.1.now) c.value_after-number.result few many c.value_after-number.ensures.small

pub round-requires-2-clause-number : goal.round-requires-2-clause-number
round-requires-2-clause-number c =
    let few = few_digits 10 c.split_at.result.0.now (sym c.are_digits.ensures ∙ c.if-not-are_digits.false) in
    let many = few_digits 18 c.split_at-2.result.1.now (sym c.are_digits-2.ensures ∙ c.if-not-are_digits-2.false) in
    let room = room_behind (length c.split_at.result.0.now) (length c.split_at-2.result.1.now) c.value_after-number.result few many c.value_after-number.ensures.small in
    omega (arith, room, c.value_after-number-2.ensures.small)
