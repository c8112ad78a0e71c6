use Rattle.std.proofs.Common.{arith, sym, ◌∙◌}
use Rattle.crush_reasons.proofs.Nearing.{shared_more, shared_whole}
use Rattle.crush_reasons.proofs.near.shared.Goals as goal

pub bytes-init : goal.bytes-init
bytes-init c = record { within = omega arith; same = omega arith }

pub bytes-preserved : goal.bytes-preserved
bytes-preserved c = record {
  within = omega (arith, c.same_at.ensures.within c.bytes-test.true);
  same = c.bytes.invariant.same ∙ shared_more c.args.a.now c.args.b.now c.bytes.count (sym c.same_at.ensures.value ∙ c.bytes-test.true);
}

pub returns-clause-value : goal.returns-clause-value
returns-clause-value c = sym (c.bytes.invariant.same ∙ shared_whole c.args.a.now c.args.b.now c.bytes.count (sym c.same_at.ensures.value ∙ c.bytes-test.false))
