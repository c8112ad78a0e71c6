use Rattle.std.proofs.Common.{codes}
use Rattle.std.proofs.lemmas.Result.{on_ok_weaker}
use Rattle.crush_reasons.specs.Flaws.{not_closed, open_text}
use Rattle.crush_reasons.specs.Place.{origin_data}
use Rattle.crush_reasons.proofs.Lines.{two_pushed}
use Rattle.crush_reasons.proofs.flaws.push_not_closed.Goals as goal

pub returns : goal.returns
unfolding not_closed
returns c = on_ok_weaker c.push_bytes.result (λ e. two_pushed c.args.text.now.items (open_text (origin_data c.args.origin) c.args.bytes.now c.args.head) (codes ", is not closed") _ _ c.in_ok-push_open.ensures e) c.push_bytes.ensures
