use Rattle.std.proofs.Common.{◌<◌, ◌∷◌, [], ◌∙◌, sym, subst, length, arith}
use Rattle.std.specs.Prelude.{All}
use Rattle.std.proofs.lemmas.List.{take_rest}
use Rattle.crush_nodes.specs.Seen.{items_of}
use Rattle.crush_edits.specs.New.{IsStop}
use Rattle.crush_edits.specs.Put.{new_header}
use Rattle.crush_model.specs.Items.{none, bucket}
use Rattle.crush_apply.specs.Stopped.{stop_data, stops_data}
use Rattle.crush_apply.proofs.Buckets.{new_of, stop_at, with_lowest, later_forms}
use Rattle.crush_apply.proofs.Destinations.{of_ok}
use Rattle.crush_apply.proofs.route.new_buckets.new_buckets.Goals as goal

pub new_bucket-requires : goal.new_bucket-requires
new_bucket-requires g c = subst (λ x. IsStop (stop_data c.args.at.now x)) (sym c.index-stops-0.is) (stop_at IsStop c.args.at.now c.args.stops.now 0 c.index-stops-0.result c.requires.some c.requires.forms)

pub in_new_buckets-requires-clause-forms : goal.in_new_buckets-requires-clause-forms
in_new_buckets-requires-clause-forms g c = subst (λ xs. All IsStop (stops_data c.args.at.now xs)) (sym (take_rest c.args.stops.now 1)) (later_forms IsStop c.args.at.now c.args.stops.now c.requires.forms)

pub returns : goal.returns
returns g c =
    let l = c.args.at.now in
    let ids = c.args.ids.now in
    let xs = c.args.stops.now in
    let many = c.requires.as_many in
    let some = c.requires.some in
    let ids_some : 0 < length ids = omega (arith, many, some) in
    let whole =
    with_lowest l ids xs c.index-ids-0.result c.index-stops-0.result (items_of (c.in_ok-lowest.lowest ∷ [])) ids_some some
    (c.in_ok-lowest.ensures ∙ (λ j. bucket (new_header (new_of (c.index-ids-0.is j) (stop_data l (c.index-stops-0.is j)))) 0 1 none none)) in
    of_ok _ _ c.in_new_buckets.result (λ node is. is ∙ whole) c.in_new_buckets.ensures
