use Rattle.std.proofs.Common.{rules}
use Rattle.crush_input.proofs.notes.unread_text.Goals as goal

-- the reason in the note is the text of the system's error
pub returns : goal.returns
returns c = (c.in_ok-reason.reason.bytes.items, search rules)
