use Rattle.std.proofs.Common.{◌∷◌, [], arith, sym, subst, ◌∙◌, take}
use Rattle.crush_nodes.specs.Seen.{items_of}
use Rattle.crush_edits.specs.New.{IsStop}
use Rattle.crush_edits.specs.Put.{with_ids, new_header}
use Rattle.crush_apply.specs.Stopped.{stop_data, stops_data}
use Rattle.crush_model.specs.Items.{none, bucket}
use Rattle.crush_apply.proofs.Buckets.{new_of, stop_at, one_more, weigh_item}
use Rattle.crush_apply.proofs.route.new_buckets.in_new_buckets.Goals as goal

pub new_bucket-requires : goal.new_bucket-requires
new_bucket-requires g c =
    subst (λ x. IsStop (stop_data c.args.at.now x)) (sym c.index-stops-k.is) (stop_at IsStop c.args.at.now c.args.stops.now c.loop-k.k c.index-stops-k.result (omega arith) c.requires.forms)

pub hold-requires-clause-fits : goal.hold-requires-clause-fits
hold-requires-clause-fits g c =
    weigh_item (items_of (c.args.item ∷ [])) (items_of (c.in_ok-above.above ∷ [])) (items_of (c.loop-k.node ∷ [])) _ (with_ids (take c.loop-k.k c.args.ids.now) (stops_data c.args.at.now (take c.loop-k.k c.args.stops.now))) c.requires.light c.in_ok-above.ensures c.loop-k.invariant

pub loop-k-preserved : goal.loop-k-preserved
loop-k-preserved g c =
    one_more c.args.at.now (items_of (c.args.item ∷ [])) c.args.ids.now c.args.stops.now c.loop-k.k c.index-ids-k.result c.index-stops-k.result
    (items_of (c.in_ok-above.above ∷ [])) (items_of (c.loop-k.node ∷ [])) (items_of (c.hold.new.self ∷ [])) (let many = c.requires.as_many in omega arith) (omega arith)
    (c.in_ok-above.ensures ∙ (λ j. bucket (new_header (new_of (c.index-ids-k.is j) (stop_data c.args.at.now (c.index-stops-k.is j)))) 0 1 none none))
    c.loop-k.invariant c.hold.ensures.items
