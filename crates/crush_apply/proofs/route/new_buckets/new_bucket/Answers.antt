use Rattle.std.proofs.Common.{◌≡◌, ℕ, ◌<◌, length, List, [], ◌∷◌, arith, ap, sym, subst, ◌∙◌}
use Rattle.std.specs.Prelude.{IfOk}
use Rattle.crush_model.specs.Items.{none, bucket}
use Rattle.crush_nodes.specs.Seen.{items_of}
use Rattle.crush_edits.specs.Put.{new_header}
use Rattle.crush_edits.specs.declared.location.Pair.{Pair}
use Rattle.crush_apply.specs.Stopped.{pair_name}
use Rattle.crush_apply.proofs.Buckets.{pair_there, pair_name-get}
use Rattle.crush_apply.proofs.route.new_buckets.new_bucket.Goals as goal

pub offset_bounds-pairs-stop : goal.offset_bounds-pairs-stop
offset_bounds-pairs-stop g c =
    let there = pair_there c.args.at.now c.args.stop.pair c.requires.name.some in
    let few = c.pairs.ensures.forms.few in
    omega arith

pub bounds-pairs-stop : goal.bounds-pairs-stop
bounds-pairs-stop g c =
    subst (λ (l : List Pair). c.args.stop.pair < length l) (sym c.pairs.ensures.value) (pair_there c.args.at.now c.args.stop.pair c.requires.name.some)

pub returns : goal.returns
returns g c =
    let name : c.index-pairs-stop.result.name ≡ pair_name c.args.at.now c.args.stop.pair =
    ap (λ (p : Pair). p.name) c.index-pairs-stop.is
    ∙ sym (pair_name-get c.pairs.result.now c.args.stop.pair c.index-pairs-stop.result
    (subst (λ (l : List Pair). c.args.stop.pair < length l) (sym c.pairs.ensures.value) (pair_there c.args.at.now c.args.stop.pair c.requires.name.some)))
    ∙ ap (λ l. pair_name l c.args.stop.pair) c.pairs.ensures.value in
    subst (λ (n : List ℕ). IfOk c.empty_bucket.result (λ node. items_of (node ∷ []) ≡ bucket (new_header (record { id = c.args.id; kind = c.args.stop.kind; name = n })) 0 1 none none)) name c.empty_bucket.ensures
