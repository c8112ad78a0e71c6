use Rattle.std.proofs.Common.{◌≡◌, ap, sym, subst, ◌∙◌}
use Rattle.std.specs.Prelude.{Some, ◌≤◌}
use Rattle.crush_units.specs.declared.limits.TheConstants.{HEAVIEST_BUCKET}
use Rattle.crush_model.specs.Classes.{class_weight_of}
use Rattle.crush_nodes.specs.Classed.{class_sum_in}
use Rattle.crush_tree.proofs.ClassLemmas.{class_light, class_weighed}
use Rattle.crush_tree.proofs.forest.Forest.class_weight_along.Goals as goal

pub class_weight_in-requires : goal.class_weight_in-requires
class_weight_in-requires g c =
    let k = c.as_bytes.result.now in
    subst (λ n. n ≤ HEAVIEST_BUCKET) (sym (ap (class_sum_in k) c.item_along-node.ensures)) (class_light c.args.self.now c.args.id c.args.place k c.recall_invariant.ensures c.requires.one)

pub returns : goal.returns
returns g c t stands =
    let k = c.as_bytes.result.now in
    let same : c.as_bytes.result.now ≡ c.args.class.now = c.as_bytes.ensures.value in
    ap (class_weight_of t c.args.id) (sym same) ∙ class_weighed c.args.self.now c.args.id c.args.place k t c.recall_invariant.ensures c.requires.one stands ∙ ap Some (sym (c.class_weight_in.ensures ∙ ap (class_sum_in k) c.item_along-node.ensures))
