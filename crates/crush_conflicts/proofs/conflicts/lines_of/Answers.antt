use Rattle.std.proofs.Common.{subst, sym, ◌∙◌}
use Rattle.crush_model.specs.Stands.{Stands}
use Rattle.crush_conflicts.specs.Conflicts.{AreConflicts}
use Rattle.std.proofs.lemmas.Result.{IfOk-weaker}
use Rattle.crush_conflicts.proofs.conflicts.lines_of.Goals as goal

pub returns : goal.returns
returns g c =
    IfOk-weaker c.conflict_lines.result _ _
    (λ lines are s t z os before after maps.
    subst (λ setting. AreConflicts setting t os z lines.items) (c.setting.ensures ∙ before.setting)
    (are t z os (subst (λ f. Stands f t) (sym c.in_ok-of.ensures) before.forest) (subst (λ f. Stands f z) (sym c.in_ok-of-2.ensures) after)
    (c.in_ok-operators_of.ensures os maps)))
    c.conflict_lines.ensures
