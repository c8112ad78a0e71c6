use Rattle.crush_input.proofs.input.read_without_notes.Goals as goal

-- the bytes that were read are the bytes that were taken from the reader
pub returns-in-Ok-clause-taken : goal.returns-in-Ok-clause-taken
returns-in-Ok-clause-taken g c = (c.in-Ok.bytes.items, c.in-Ok.ensures.few, c.in-Ok.ensures.consumed)

pub returns-in-Err-clause-taken : goal.returns-in-Err-clause-taken
returns-in-Err-clause-taken g c = c.in-Err.ensures.taken
