use Rattle.std.proofs.Common.{◌∙◌, inr, sym}
use Rattle.crush_input.proofs.Outputs.{flaw_where}
use Rattle.crush_input.proofs.verb_maps.fault_of_flaw.Goals as goal

pub returns-then-is_cut_at : goal.returns-then-is_cut_at
returns-then-is_cut_at c =
    let flaw = flaw_where c.args.bytes.now c.args.fault (sym c.lacks_memory.ensures ∙ c.if-lacks_memory.false) c.requires.flaw in
    (c.requires.few, inr (c.args.fault, flaw, sym c.is_cut_at.ensures ∙ c.if-is_cut_at.true))

pub returns : goal.returns
returns c =
    let flaw = flaw_where c.args.bytes.now c.args.fault (sym c.lacks_memory.ensures ∙ c.if-lacks_memory.false) c.requires.flaw in
    (c.requires.few, (flaw, sym c.is_cut_at.ensures ∙ c.if-is_cut_at.false))
