use Rattle.std.proofs.Common.{◌∙◌}
use Rattle.crush_since.specs.Tallies.{tally_with}
use Rattle.crush_since.proofs.since.tally.count_one.Goals as goal

pub returns : goal.returns
returns g c = c.with.ensures ∙ (λ k. tally_with c.args.tally (c.before-was.ensures k) (c.after-is.ensures k))
