use Rattle.std.proofs.Common.{◌∙◌}
use Rattle.crush_history.proofs.EntryLines.{operator_name-at}
use Rattle.crush_history.proofs.history.operator_name.Goals as goal

pub returns : goal.returns
returns c = c.as_str.ensures.value ∙ operator_name-at c.args.scripts.now c.args.operator c.index-scripts-operator.result c.requires c.index-scripts-operator.is
