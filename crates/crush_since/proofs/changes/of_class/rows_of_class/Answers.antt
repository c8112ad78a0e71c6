use Rattle.std.proofs.Common.{◌∙◌}
use Rattle.crush_since.proofs.changes.of_class.rows_of_class.Goals as goal

pub returns : goal.returns
returns c = c.reverse.ensures.items ∙ c.in_ok-kept.ensures
