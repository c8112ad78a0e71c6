use Rattle.std.proofs.Common.{ap, arith, ◌∙◌}
use Rattle.crush_reasons.specs.Place.{behind_line, from_line}
use Rattle.crush_reasons.proofs.Lines.{from_first, from_next}
use Rattle.crush_reasons.proofs.place.from_line.Goals as goal

pub loop-done-init : goal.loop-done-init
loop-done-init c = from_first c.args.bytes.now

pub loop-done-preserved : goal.loop-done-preserved
loop-done-preserved c = c.behind_line-rest.ensures ∙ ap behind_line c.loop-done.invariant ∙ from_next c.loop-done._done c.args.bytes.now

pub returns : goal.returns
returns c = c.loop-done.invariant ∙ ap (λ n. from_line n c.args.bytes.now) (omega arith)
