use Rattle.std.proofs.Common.{ap, ◌∙◌}
use Rattle.std.specs.Option.{option_map}
use Rattle.crush_items.specs.SeenItem.{seen_data}
use Rattle.crush_conflicts.specs.Differences.{differences}
use Rattle.crush_conflicts.proofs.cases.Case.changes_of.Goals as goal

pub returns : goal.returns
returns g c = λ t stands. c.differences.ensures t stands ∙ ap (λ o. differences t o (option_map seen_data c.args.self.now.before)) c.seen-item.ensures
