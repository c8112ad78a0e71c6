use Rattle.std.proofs.Common.{◌∙◌, ap, subst, sym}
use Rattle.crush_model.specs.Forest.{IsSound, rows_of}
use Rattle.crush_model.specs.Stands.{Stands}
use Rattle.crush_model.proofs.Stands.{stands_for_rows}
use Rattle.crush_items.specs.Items.{item_entry}
use Rattle.crush_items.proofs.HasLaws.{few_items}
use Rattle.crush_since.proofs.changes.both.Both.of.Goals as goal

pub by_id-requires : goal.by_id-requires
by_id-requires g c =
    let f = c.args.old.now.forest in
    let e = c.args.new.now.forest in
    let sound = subst IsSound c.forest-2.ensures c.recall_invariant-2.ensures in
    record { few = few_items item_entry f c.in_ok-maps.maps.old.all.items (subst IsSound c.forest.ensures c.recall_invariant.ensures) (λ t stands. (c.in_ok-maps.ensures.pairs t (rows_of e) stands (stands_for_rows e sound)).before) }

pub by_id-requires-2 : goal.by_id-requires-2
by_id-requires-2 g c =
    let f = c.args.old.now.forest in
    let e = c.args.new.now.forest in
    let sound = subst IsSound c.forest.ensures c.recall_invariant.ensures in
    record { few = few_items item_entry e c.in_ok-maps.maps.new.all.items (subst IsSound c.forest-2.ensures c.recall_invariant-2.ensures) (λ u stands. (c.in_ok-maps.ensures.pairs (rows_of f) u (stands_for_rows f sound) stands).after) }

pub returns-clause-tables : goal.returns-clause-tables
returns-clause-tables g c = λ t u a b.
    let maps = c.in_ok-maps.ensures in
    record {
      old = subst (λ m. Stands m.forest t) (sym maps.old) a;
      new = subst (λ m. Stands m.forest u) (sym maps.new) b;
      before = c.in_ok-before.ensures t (maps.pairs t u a b).before;
      after = c.in_ok-after.ensures u (maps.pairs t u a b).after;
      trees = maps.trees t u a b;
      buckets = c.in_ok-buckets.ensures ∙ ap (λ m. m.forest) (sym maps.old);
    }
