use Rattle.std.proofs.Common.{ap, ◌∙◌}
use Rattle.std.specs.Prelude.{decimal}
use Rattle.crush_print.proofs.ItemLines.{head_more}
use Rattle.crush_print.proofs.lines.push_head.Goals as goal

pub returns : goal.returns
returns g c = rw (← c.as_bytes.ensures.value) (head_more _ _ _ _ c.args.kind.now c.as_slice.result.now c.as_bytes.result.now c.as_slice-2.result.now c.as_bytes-number.result.now c.as_slice-3.result.now c.args.header.now.id c.in_ok-push_all.ensures c.push_all-2.ensures c.as_slice.ensures c.as_slice-2.ensures (c.as_bytes-number.ensures.value ∙ c.format.ensures.text ∙ ap decimal c.distance.ensures.value) c.as_slice-3.ensures)
