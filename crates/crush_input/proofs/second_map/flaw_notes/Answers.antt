use Rattle.std.proofs.Common.{rules}
use Rattle.crush_input.proofs.second_map.flaw_notes.Goals as goal

pub returns : goal.returns
returns c = search rules
