use Rattle.crush_input.proofs.input.read_named.Goals as goal

-- the bytes that were read are the bytes that were taken from the file
pub returns-in-Ok-clause-taken : goal.returns-in-Ok-clause-taken
returns-in-Ok-clause-taken g c = (c.in-Ok.bytes.items, c.in-Ok.ensures.few, c.in-Ok.ensures.consumed)
