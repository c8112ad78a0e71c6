use Rattle.std.proofs.Common.{◌∙◌, ap, map, subst, sym}
use Rattle.std.specs.Prelude.{filter}
use Rattle.std.proofs.lemmas.Result.{IfOk-weaker}
use Rattle.crush_items.specs.ById.{AreById}
use Rattle.crush_items.specs.Items.{item_entry}
use Rattle.crush_compare.specs.IdPairs.{entries_at}
use Rattle.crush_compare.specs.Within.{has_item_within}
use Rattle.crush_compare.proofs.WithinLaws.{pairs_of_part}
use Rattle.crush_compare.proofs.below.pairs_below.Goals as goal

pub returns : goal.returns
returns g c = IfOk-weaker c.pairs_within.result _ _ (λ within is t u stands_t stands_u has_t has_u tree_t tree_u.
    let es = map item_entry c.args.old.now.all.items in
    let fs = map item_entry c.args.new.now.all.items in
    let before = c.in_ok-before.ensures t has_t in
    let after = c.in_ok-after.ensures u has_u in
    ap (map (entries_at es fs)) (is ∙ ap (filter (has_item_within c.run_of-old_run.result c.run_of-new_run.result)) c.as_slice.ensures.value)
    ∙ pairs_of_part t u es fs c.as_slice-old_places.result.now c.as_slice-new_places.result.now c.args.under c.run_of-old_run.result c.run_of-new_run.result
    (record {
      old_lawful = stands_t.lawful;
      new_lawful = stands_u.lawful;
      before = subst (AreById t es) (sym c.as_slice-old_places.ensures.value) before;
      after = subst (AreById u fs) (sym c.as_slice-new_places.ensures.value) after;
    })
    (c.run_of-old_run.ensures t stands_t before has_t tree_t) (c.run_of-new_run.ensures u stands_u after has_u tree_u) _ c.in_ok-pairs.ensures)
    c.pairs_within.ensures
