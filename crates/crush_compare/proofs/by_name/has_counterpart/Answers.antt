use Rattle.std.proofs.Common.{◌∙◌}
use Rattle.crush_nodes.specs.SeenView.{view_data}
use Rattle.crush_compare.proofs.NamedLaws.{has_one, has_none}
use Rattle.crush_compare.proofs.by_name.has_counterpart.Goals as goal

pub returns-in-Some : goal.returns-in-Some
returns-in-Some g c = λ u stands. c.are_one.ensures ∙ has_one c.args.devices u (view_data c.view-view.result) _ _ c.in-Some.id stands.lawful.ids c.view-view.ensures (c.in-Some.ensures u stands)

pub returns-in-None : goal.returns-in-None
returns-in-None g c = λ u stands. has_none c.args.devices u (view_data c.view-view.result) _ _ c.view-view.ensures (c.in-None.ensures u stands)
