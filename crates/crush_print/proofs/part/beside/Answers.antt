use Rattle.std.proofs.Common.{◌∙◌, sym, subst, length}
use Rattle.std.specs.Prelude.{All}
use Rattle.crush_items.specs.SeenPart.{HasSteps}
use Rattle.crush_print.proofs.PlaceLaws.{no_steps, not_in_bucket}
use Rattle.crush_print.proofs.part.beside.Goals as goal

pub returns-in-Some-clause-others : goal.returns-in-Some-clause-others
returns-in-Some-clause-others g c = λ t stands others.
    no_steps t (length t) 0 c.args.id.now stands.lawful.parents
    (not_in_bucket t c.args.id.now c.in-Some.bucket c.nodes_in.result.now (c.nodes_in.ensures.ids t stands) (sym (c.parent.ensures t stands) ∙ c.in-Some.is) others)

pub returns-in-None-clause-steps : goal.returns-in-None-clause-steps
returns-in-None-clause-steps g c = λ t stands. subst (λ p. All (HasSteps t p) c.tops_like.result.now) (sym c.in-None.is ∙ c.parent.ensures t stands) (c.tops_like.ensures.steps t stands)

pub returns-in-None-clause-others : goal.returns-in-None-clause-others
returns-in-None-clause-others g c = λ t stands others.
    no_steps t (length t) 0 c.args.id.now stands.lawful.parents (c.tops_like.ensures.others t stands (sym (c.parent.ensures t stands) ∙ c.in-None.is) others)
