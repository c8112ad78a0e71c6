use Rattle.crush_input.proofs.Outcomes.{when_ok}
use Rattle.crush_input.proofs.Told.{known_of_take, known_through}
use Rattle.crush_input.proofs.input.read_file.Goals as goal

-- the bytes that the open file gives are the bytes that contracts know of the file
pub returns-in-Ok-clause-bytes : goal.returns-in-Ok-clause-bytes
returns-in-Ok-clause-bytes g c = when_ok _ _ c.read_named.result (λ read taken. known_through _ _ read.items c.in-Ok.ensures (known_of_take _ read.items taken)) c.read_named.ensures.bytes
