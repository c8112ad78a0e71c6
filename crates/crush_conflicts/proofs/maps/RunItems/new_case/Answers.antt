use Rattle.std.proofs.Common.{◌∙◌}
use Rattle.std.specs.Prelude.{None}
use Rattle.crush_conflicts.specs.Conflicts.{new_case}
use Rattle.crush_conflicts.proofs.maps.RunItems.new_case.Goals as goal

pub returns : goal.returns
unfolding new_case
returns g c = λ t z os before after are j. record { name = c.args.name.now; before = None; alone = c.in_ok-alone.ensures t os before are j; after = (c.seen_of.ensures ∙ c.new_item.ensures t z before after) j }
