use Rattle.std.proofs.Common.{◌++◌, ◌∙◌}
use Rattle.std.specs.Prelude.{codes}
use Rattle.crush_since.specs.Settings.{listed_if_not, tunables_line}
use Rattle.crush_since.proofs.since.settings.push_tunables.Goals as goal

pub returns : goal.returns
unfolding tunables_line
returns c = c.in_ok-tell_unless.ensures ∙ (λ i. c.args.out.now.items ++ listed_if_not (c.same_tunables.ensures i) (codes "tunables differ\n"))
