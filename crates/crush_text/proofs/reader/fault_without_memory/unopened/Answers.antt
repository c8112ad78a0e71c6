-- The fault of a first word, found by the tests of an empty map.
use Rattle.std.proofs.Common.{true, false, refl, sym, ◌∙◌}
use Rattle.crush_text.specs.declared.fault.TextFaultKind.TheVariants.{Unexpected, UnknownType, LeftOut}
use Rattle.crush_text.proofs.Unbegun.{first_fails, first_memory}
use Rattle.crush_text.proofs.reader.fault_without_memory.unopened.Goals as goal

pub returns-then-is_out_of_place : goal.returns-then-is_out_of_place
returns-then-is_out_of_place c = rw c.fault.ensures (first_fails c.args.word.place c.args.word.text.now true _ _ Unexpected (sym c.is_out_of_place.ensures ∙ c.if-is_out_of_place.true) refl refl refl)

pub returns-then-is : goal.returns-then-is
returns-then-is c = rw c.fault-then-is.ensures (first_fails c.args.word.place c.args.word.text.now false true _ LeftOut (sym c.is_out_of_place.ensures ∙ c.if-is_out_of_place.false) (sym c.is.ensures ∙ c.if-is.true) refl refl)

pub returns-then-opens_alone : goal.returns-then-opens_alone
returns-then-opens_alone c = rw c.memory_at.ensures (first_memory c.args.word.place c.args.word.text.now (sym c.is_out_of_place.ensures ∙ c.if-is_out_of_place.false) (sym c.is.ensures ∙ c.if-is.false) (sym c.opens_alone.ensures ∙ c.if-opens_alone.true))

pub returns-else-opens_alone : goal.returns-else-opens_alone
returns-else-opens_alone c = rw c.fault-else-opens_alone.ensures (first_fails c.args.word.place c.args.word.text.now false false false UnknownType (sym c.is_out_of_place.ensures ∙ c.if-is_out_of_place.false) (sym c.is.ensures ∙ c.if-is.false) (sym c.opens_alone.ensures ∙ c.if-opens_alone.false) refl)
