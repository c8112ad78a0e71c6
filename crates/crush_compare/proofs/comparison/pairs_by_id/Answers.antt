use Rattle.std.proofs.Common.{map, sym, subst}
use Rattle.crush_items.specs.ById.{AreById}
use Rattle.crush_items.specs.Items.{item_entry}
use Rattle.crush_compare.proofs.IdPairs.{each_id_once}
use Rattle.crush_compare.proofs.comparison.pairs_by_id.Goals as goal

pub returns : goal.returns
returns g c = λ t u old_lawful new_lawful before after.
    each_id_once t u _ _ c.as_slice-old_places.result.now c.as_slice-new_places.result.now _
    (record {
      old_lawful = old_lawful;
      new_lawful = new_lawful;
      before = subst (AreById t (map item_entry c.args.old.now.all.items)) (sym c.as_slice-old_places.ensures.value) (c.in_ok-before.ensures t before);
      after = subst (AreById u (map item_entry c.args.new.now.all.items)) (sym c.as_slice-new_places.ensures.value) (c.in_ok-after.ensures u after);
    })
    c.in_ok-pairs.ensures
