use Rattle.std.proofs.Common.{refl, sym, ◌∙◌}
use Rattle.crush_input.proofs.Outputs.{flaw_noted, flaw_where}
use Rattle.crush_input.proofs.second_map.stopped_at.Goals as goal

pub returns-in-Ok-clause-fault : goal.returns-in-Ok-clause-fault
returns-in-Ok-clause-fault c = (refl, (c.requires.few, flaw_where c.args.text.now c.args.fault (sym c.lacks_memory.ensures ∙ c.if-lacks_memory.false) c.requires.flaw))

pub returns-in-Ok-clause-noted : goal.returns-in-Ok-clause-noted
returns-in-Ok-clause-noted c = flaw_noted c.args.explain c.args.which c.args.name.now c.args.text.now c.args.fault _ c.in-Ok.ensures
