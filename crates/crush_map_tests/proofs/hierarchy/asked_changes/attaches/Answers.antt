use Rattle.std.proofs.Common.{rules, sym, subst, ◌++◌, ◌∙◌, ◌∷◌, [], List}
use Rattle.std.specs.Prelude.{Some}
use Rattle.crush_model.specs.Forest.{rows_of}
use Rattle.crush_model.specs.ItemRows.{rows}
use Rattle.crush_model.specs.Items.{Items}
use Rattle.crush_model.specs.Lawful.{Lawful}
use Rattle.crush_model.specs.Table.{Row}
use Rattle.crush_nodes.specs.Seen.{items_of}
use Rattle.crush_map_tests.proofs.hierarchy.asked_changes.attaches.Goals as goal

pub attach_by-requires : goal.attach_by-requires
attach_by-requires c = record {
  guides = search rules;
  can = record {
    room = c.make_room.ensures.room c.if-not-make_room.false;
    sums = search rules;
    kind = search rules;
    fits =
        let come : Items = items_of (c.device-node.result ∷ []) in
        let own : Lawful (rows_of c.args.hierarchy.now ++ rows (Some c.args.bucket) come) = subst (λ (n : Items). Lawful (rows_of c.args.hierarchy.now ++ rows (Some c.args.bucket) n)) (sym c.device-node.ensures) (c.can_come.ensures.fits c.if-not-can_come.false) in
        subst (λ (t : List Row). Lawful (t ++ rows (Some c.args.bucket) come)) (sym (c.make_room.ensures.same ∙ c.requires.rows)) own;
  };
}
