use Rattle.std.proofs.Common.{◌∙◌}
use Rattle.crush_since.specs.CountedByName.{tally_plus}
use Rattle.crush_since.proofs.names.since.counting.count_one.Goals as goal

pub returns : goal.returns
returns g c = c.with.ensures ∙ (λ i. tally_plus c.args.tally (c.before-2.ensures i) (c.after.ensures i))
