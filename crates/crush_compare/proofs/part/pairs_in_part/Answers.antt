use Rattle.std.proofs.Common.{map, ap, ◌∙◌}
use Rattle.std.proofs.lemmas.Result.{IfOk-weaker}
use Rattle.crush_items.specs.Items.{item_entry}
use Rattle.crush_compare.specs.PairItems.{items_at}
use Rattle.crush_compare.proofs.RunPairs.{kept_pairs}
use Rattle.crush_compare.proofs.part.pairs_in_part.Goals as goal

pub returns : goal.returns
returns g c =
    let es = map item_entry c.args.old.now.all.items in
    let fs = map item_entry c.args.new.now.all.items in
    IfOk-weaker c.pairs_within.result _ _
    (λ kept is t u stands_t stands_u has_t has_u tree_t tree_u.
    ap (map (items_at es fs)) is ∙ kept_pairs c.args.name.now t u es fs _ _ (c.in_ok-before.ensures t stands_t has_t tree_t) (c.in_ok-after.ensures u stands_u has_u tree_u) c.args.pairs.now)
    c.pairs_within.ensures
