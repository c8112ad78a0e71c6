use Rattle.std.proofs.lemmas.Result.{on_ok_weaker}
use Rattle.crush_reasons.proofs.Lines.{three_pushed}
use Rattle.crush_reasons.proofs.way.push_asked.Goals as goal

pub returns : goal.returns
returns c =
    on_ok_weaker c.push_near.result (λ e. three_pushed c.args.text.now.items c.args.name.now c.args.said.now _ _ _ _ c.in_ok-extend_from_slice.ensures.items c.in_ok-extend_from_slice-2.ensures.items e) c.push_near.ensures
