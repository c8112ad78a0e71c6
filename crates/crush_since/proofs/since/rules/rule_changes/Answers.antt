use Rattle.std.proofs.Common.{ap, ◌∙◌, ◌++◌}
use Rattle.crush_since.specs.Emptied.{emptied_rules}
use Rattle.crush_since.proofs.since.rules.rule_changes.Goals as goal

pub returns : goal.returns
returns g c = λ t u x y.
    c.in_ok-push_emptied.ensures t u x y ∙ ap (λ l. l ++ emptied_rules c.args.identity t u c.args.new.now.setting.rules) (c.in_ok-changes.ensures t u x y)
