use Rattle.std.proofs.Common.{ap, ◌∙◌, ◌++◌, map}
use Rattle.crush_print.proofs.WalkLaws.{one_more}
use Rattle.crush_since.specs.Classes.{change_of_class, if_changed}
use Rattle.crush_since.specs.ClassesSeen.{class_change_data}
use Rattle.crush_since.specs.CollectedSeen.{use_data}
use Rattle.crush_since.proofs.RuleLaws.{seen_more}
use Rattle.crush_since.proofs.since.classes.push_changes.Goals as goal

pub loop-index-preserved : goal.loop-index-preserved
loop-index-preserved c =
    one_more _ _ _ _ _ _ c.loop-index.invariant (c.in_ok-push_if_changed.ensures ∙ ap (λ x. map class_change_data c.loop-index.changes.items ++ if_changed x) c.change_of.ensures)
    (seen_more change_of_class use_data c.args.uses.now c.loop-index.index c.class_at-class.result.now c.loop-index-test.true c.class_at-class.ensures)
