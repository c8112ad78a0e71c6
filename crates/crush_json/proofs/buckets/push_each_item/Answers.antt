use Rattle.std.proofs.Common.{List, [], ◌∷◌, ◌++◌, ap, ◌∙◌, append-nil, take}
use Rattle.std.proofs.lemmas.List.{take_all}
use Rattle.std.proofs.lemmas.List.Concat.{flat_map-append}
use Rattle.json.specs.Token.{Token}
use Rattle.crush_nodes.specs.Seen.{items_of}
use Rattle.crush_json.specs.ItemDocuments.{placed_documents}
use Rattle.crush_json.specs.Tokens.{tokens_of, tokens_of_all}
use Rattle.crush_json.proofs.ItemLaws.{placed-more}
use Rattle.crush_json.proofs.Listed.{one_more}
use Rattle.crush_json.proofs.buckets.push_each_item.Goals as goal

pub loop-place-preserved : goal.loop-place-preserved
loop-place-preserved g c =
    let place = c.loop-place.place in
    let before = placed_documents 0 (items_of (take place c.args.items.now)) in
    one_more _ _ _ _ _ _ c.loop-place.invariant c.in_ok-push_item.ensures
    (ap tokens_of_all (placed-more c.args.items.now place c.index-items-place.result c.loop-place-test.true c.index-items-place.is)
    ∙ flat_map-append tokens_of before _ ∙ ap (λ (l : List Token). tokens_of_all before ++ l) (append-nil _))

pub returns : goal.returns
returns g c =
    c.loop-place.invariant ∙ ap (λ ns. c.args.out.now ++ tokens_of_all (placed_documents 0 (items_of ns))) (take_all c.loop-place.place c.args.items.now c.loop-place-test.false)
