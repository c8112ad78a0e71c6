use Rattle.std.proofs.Common.{sym, ◌∙◌}
use Rattle.crush_walks.proofs.RunSteps.{longer}
use Rattle.crush_walks.proofs.runs.WeightRun.with_one.Goals as goal

pub returns : goal.returns
returns c = longer c.args.self.now.weight c.args.weight c.args.self.now.more (sym c.units.ensures.value ∙ c.if-units.false ∙ c.units-2.ensures.value)
