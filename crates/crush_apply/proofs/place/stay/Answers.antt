use Rattle.std.proofs.Common.{ap}
use Rattle.crush_apply.specs.IfPlaced.{stay_answer}
use Rattle.crush_apply.proofs.RolledBack.{when_alike, when_unmoved}
use Rattle.crush_apply.proofs.Placings.{left_alone}
use Rattle.crush_apply.proofs.place.stay.Goals as goal

pub returns-in-Update : goal.returns-in-Update
returns-in-Update g c = λ s.
    when_alike _ _ _ _ _ (λ t st. ap (λ h. stay_answer s t h c.args.arrival.now.name.now c.args.arrival.now.weight) c.in-Update.is) (c.reweight.ensures.answers s)

pub returns : goal.returns
returns g c = λ s.
    when_unmoved _ _ (λ t st. (t, left_alone s t c.args.how c.args.arrival.now.name.now c.args.arrival.now.weight c.in_default.not-Update, st))
