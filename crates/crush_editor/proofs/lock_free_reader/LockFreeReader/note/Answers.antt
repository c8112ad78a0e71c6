use Rattle.std.proofs.Common.{rules}
use Rattle.crush_editor.proofs.lock_free_reader.LockFreeReader.note.Goals as goal

pub returns-clause-seat : goal.returns-clause-seat
returns-clause-seat g c = search rules
