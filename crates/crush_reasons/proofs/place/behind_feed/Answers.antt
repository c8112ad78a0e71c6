use Rattle.std.proofs.Common.{◌+◌, ◌==◌, ap, arith, get_or, sym, ◌∙◌}
use Rattle.std.specs.Prelude.{if◌then◌else◌}
use Rattle.crush_reasons.proofs.Lines.{feed-take}
use Rattle.crush_reasons.proofs.place.behind_feed.Goals as goal

pub loop-byte-preserved : goal.loop-byte-preserved
loop-byte-preserved c =
    let bytes = c.args.bytes.now in
    let i = c.loop-byte.byte-index in
    record {
      few = omega (arith, c.further-behind.ensures.most, c.loop-byte.invariant.few);
      value = c.further-behind.ensures.value ∙ ap (λ n. if get_or bytes i 0 == 10 then 0 else n + 1) c.loop-byte.invariant.value ∙ sym (feed-take bytes i c.loop-byte-test.true);
    }
