use Rattle.std.proofs.Common.{subst, sym}
use Rattle.crush_conflicts.specs.MapsSeen.{IsMapAlone}
use Rattle.crush_conflicts.specs.Pairwise.{Pairwise}
use Rattle.std.proofs.lemmas.Result.{IfOk-weaker}
use Rattle.crush_conflicts.proofs.conflicts.lost_changes.Goals as goal

pub returns : goal.returns
returns g c =
    IfOk-weaker c.lines_of.result _ _
    (λ lines are s t z before after. are s t z _ before after (subst (Pairwise IsMapAlone _) (sym c.as_slice.ensures.value) (c.in_ok-maps.ensures s t before)))
    c.lines_of.ensures
