use Rattle.std.proofs.Common.{◌++◌, ap, ◌∙◌}
use Rattle.std.proofs.lemmas.Result.{on_ok_weaker}
use Rattle.crush_reasons.specs.Flaws.{below_at, defined_below, line_of}
use Rattle.crush_reasons.specs.Place.{origin_data}
use Rattle.crush_reasons.specs.Shown.{told}
use Rattle.crush_reasons.proofs.Lines.{two_pushed}
use Rattle.crush_reasons.proofs.flaws.push_defined_below.Goals as goal

pub returns : goal.returns
unfolding defined_below
returns c = on_ok_weaker c.push_below_at.result (λ e. two_pushed c.args.text.now.items (told c.args.name.now) (below_at (line_of (origin_data c.args.origin) c.args.bytes.now c.args.at)) _ _ c.in_ok-push_told.ensures (e ∙ ap (λ n. c.push_told.new.text.items ++ below_at n) c.line_of-line.ensures)) c.push_below_at.ensures
