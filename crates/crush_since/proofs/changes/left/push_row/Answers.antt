use Rattle.std.proofs.Common.{◌∙◌, ◌++◌, [], ◌∷◌, false, ap, map}
use Rattle.std.proofs.lemmas.List.{map_push}
use Rattle.crush_since.specs.SeenChange.{row_change}
use Rattle.crush_since.proofs.FoundLaws.{change_found}
use Rattle.crush_since.proofs.changes.left.push_row.Goals as goal

pub returns : goal.returns
returns g c = λ t u tables.
    ap (map (row_change c.args.both.now.maps)) c.in_ok-push.ensures.items ∙ map_push (row_change c.args.both.now.maps) c.args.rows.now.items _
    ∙ ap (λ x. map (row_change c.args.both.now.maps) c.args.rows.now.items ++ x ∷ []) (change_found t u _ false c.args.depth c.args.id.now (c.pair_of-pair.ensures t u tables))
