use Rattle.std.proofs.Common.{ap, ◌∙◌}
use Rattle.std.specs.Prelude.{unwrap_or}
use Rattle.crush_since.proofs.EmptiedLaws.{named_taken, absent_taken}
use Rattle.crush_since.proofs.since.emptied.taken_weight.Goals as goal

pub returns-in-Some : goal.returns-in-Some
returns-in-Some g c = λ t stands.
    c.or_nothing.ensures ∙ ap (λ o. unwrap_or o 0) (c.named_weight.ensures t stands ∙ named_taken t c.args.bucket _ _ stands.lawful (c.in-Some.ensures t stands))

pub returns-in-None : goal.returns-in-None
returns-in-None g c = λ t stands. c.from_units.ensures ∙ absent_taken t c.args.bucket _ (c.in-None.ensures t stands)
