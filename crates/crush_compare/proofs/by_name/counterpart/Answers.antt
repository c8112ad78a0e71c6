use Rattle.std.proofs.Common.{ap, ◌∙◌}
use Rattle.std.specs.Prelude.{None, option_and_then, if◌then◌else◌}
use Rattle.crush_model.specs.Table.{id_named}
use Rattle.crush_nodes.specs.SeenView.{view_data}
use Rattle.crush_nodes.specs.Views.{ViewData}
use Rattle.crush_items.specs.ItemData.{item_of}
use Rattle.crush_compare.specs.Named.{counterpart, if_one}
use Rattle.crush_compare.specs.PairItems.{item_at}
use Rattle.crush_compare.proofs.NamedLaws.{item_found}
use Rattle.crush_compare.proofs.by_name.counterpart.Goals as goal

pub returns-in_default : goal.returns-in_default
unfolding counterpart
returns-in_default g c = λ t es stands by_id.
    ap (option_and_then (if_one c.args.devices t (view_data c.view-view.result).id)) (c.in_default.ensures t stands)
    ∙ ap (λ (v : ViewData). option_and_then (if_one c.args.devices t v.id) (id_named t v.name)) c.view-view.ensures

pub returns-then-is_one : goal.returns-then-is_one
unfolding counterpart
returns-then-is_one g c = λ t es stands by_id.
    ap (item_at es) c.position.ensures ∙ item_found t es c.in-Some.id c.find.result (c.find.ensures.entry t es stands.lawful by_id)
    ∙ ap (λ one. if one then item_of t c.in-Some.id else None) c.if-is_one.ensures
    ∙ ap (option_and_then (if_one c.args.devices t (view_data c.view-view.result).id)) (c.in-Some.ensures t stands)
    ∙ ap (λ (v : ViewData). option_and_then (if_one c.args.devices t v.id) (id_named t v.name)) c.view-view.ensures

pub returns-else-is_one : goal.returns-else-is_one
unfolding counterpart
returns-else-is_one g c = λ t es stands by_id.
    ap (λ one. if one then item_of t c.in-Some.id else None) c.if-is_one.ensures
    ∙ ap (option_and_then (if_one c.args.devices t (view_data c.view-view.result).id)) (c.in-Some.ensures t stands)
    ∙ ap (λ (v : ViewData). option_and_then (if_one c.args.devices t v.id) (id_named t v.name)) c.view-view.ensures
