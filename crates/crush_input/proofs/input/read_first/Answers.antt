use Rattle.std.proofs.Common.{inl, refl, sym}
use Rattle.crush_input.specs.Options.{IsFile}
use Rattle.crush_input.proofs.Consuming.{few_nothing}
use Rattle.crush_input.proofs.Outcomes.{err_as, when_ok}
use Rattle.crush_input.proofs.Reading.{part_noted, quiet_part}
use Rattle.crush_input.proofs.Told.{known_of_take}
use Rattle.crush_input.proofs.input.read_first.Goals as goal

pub returns-in-None-clause-bytes : goal.returns-in-None-clause-bytes
returns-in-None-clause-bytes g c = rw c.in-None.is (when_ok _ _ c.read_without_notes.result (λ read taken. known_of_take _ read.items taken) c.read_without_notes.ensures.bytes)

-- there are no notes about standard input, and the notes about a file are the notes of reading it
pub returns-in-None-clause-noted : goal.returns-in-None-clause-noted
returns-in-None-clause-noted g c = err_as _ _ c.read_without_notes.result (λ s none. quiet_part c.args.options.now s.fault _ none) c.read_without_notes.ensures.quiet

pub returns-in-Some-clause-noted : goal.returns-in-Some-clause-noted
returns-in-Some-clause-noted g c =
    let named : IsFile c.args.options.now.file c.as_str.result.now = rw c.in-Some.is (sym c.as_str.ensures.value) in
    err_as _ _ c.read_file.result (λ s told. part_noted c.args.options.now _ s.fault _ (inl named) told) c.read_file.ensures.noted

-- if a file is read instead of standard input, then nothing is taken from standard input
pub returns-in-Some-clause-taken : goal.returns-in-Some-clause-taken
returns-in-Some-clause-taken g c = few_nothing _ _ refl
