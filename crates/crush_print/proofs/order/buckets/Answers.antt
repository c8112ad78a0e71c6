use Rattle.std.proofs.Common.{ap, ◌∙◌, map, subst, sym}
use Rattle.std.proofs.lemmas.Result.{IfOk-weaker}
use Rattle.crush_model.specs.Stands.{Stands}
use Rattle.crush_print.proofs.order.buckets.Goals as goal

pub returns : goal.returns
returns g c = IfOk-weaker c.ids_of_buckets.result _ _
    (λ ids is t stands. is ∙ ap (map (λ b. b.now.header.id)) c.as_slice.ensures.value ∙ c.in_ok-buckets.ensures.ids t (subst (λ f. Stands f t) (sym c.forest.ensures) stands)) c.ids_of_buckets.ensures
