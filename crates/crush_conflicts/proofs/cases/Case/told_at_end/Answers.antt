use Rattle.std.proofs.Common.{◌∙◌}
use Rattle.crush_conflicts.specs.Aspects.{of_both}
use Rattle.crush_conflicts.specs.Cases.{told_at_end, with_presence}
use Rattle.crush_conflicts.proofs.cases.Case.told_at_end.Goals as goal

pub returns : goal.returns
unfolding told_at_end
returns g c = λ t lost.
    let both = c.and.ensures ∙ (λ j. of_both (lost j) (c.aspects_of-aspects.ensures j)) in
    c.with_presence.ensures ∙ (λ j. with_presence (c.is_missing.ensures j) (both j))
