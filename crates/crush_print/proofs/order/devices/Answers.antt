use Rattle.std.proofs.Common.{ap, ◌∙◌, map, subst, sym}
use Rattle.std.proofs.lemmas.Result.{IfOk-weaker}
use Rattle.crush_nodes.specs.Seen.{leaf_data}
use Rattle.crush_model.specs.Stands.{Stands}
use Rattle.crush_print.proofs.order.devices.Goals as goal

pub returns : goal.returns
returns g c = IfOk-weaker c.ids_of_devices.result _ _
    (λ ids is t stands. is ∙ ap (map (λ d. (leaf_data d.now).id)) c.as_slice.ensures.value ∙ c.in_ok-devices.ensures.ids t (subst (λ f. Stands f t) (sym c.forest.ensures) stands)) c.ids_of_devices.ensures
