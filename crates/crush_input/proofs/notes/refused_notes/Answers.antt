use Rattle.std.proofs.Common.{rules}
use Rattle.crush_input.proofs.notes.refused_notes.Goals as goal

-- with `explain` the lines have reasons, and in any other strict run they have none
pub returns-then-mode : goal.returns-then-mode
returns-then-mode c = search rules

pub returns-then-mode-2 : goal.returns-then-mode-2
returns-then-mode-2 c = search rules
