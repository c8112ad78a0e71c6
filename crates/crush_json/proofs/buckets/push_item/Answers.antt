use Rattle.std.proofs.Common.{ap}
use Rattle.std.specs.Prelude.{None}
use Rattle.crush_nodes.specs.Views.{ViewData}
use Rattle.crush_print.proofs.WalkLaws.{is_node_view}
use Rattle.crush_json.specs.MapDocument.{item_document}
use Rattle.crush_json.specs.Tokens.{tokens_of}
use Rattle.crush_json.proofs.Chains.{as_told}
use Rattle.crush_json.proofs.buckets.push_item.Goals as goal

pub returns : goal.returns
returns g c =
    as_told c.push_item_view.result c.args.out.now c.push_item_view.new.out _ _ c.push_item_view.ensures
    (ap (λ (v : ViewData). tokens_of (item_document c.args.place v)) (is_node_view None c.args.item.now _ c.item-view.ensures))
