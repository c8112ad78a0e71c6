use Rattle.std.proofs.Common.{◌∙◌, ◌++◌, [], ◌∷◌, true, ap, map}
use Rattle.std.proofs.lemmas.List.{map_push}
use Rattle.crush_since.specs.SeenChange.{row_change}
use Rattle.crush_since.proofs.FoundLaws.{change_found, told_found}
use Rattle.crush_since.proofs.changes.rows.push_told.Goals as goal

pub returns-clause-row : goal.returns-clause-row
returns-clause-row g c = λ t u tables.
    ap (map (row_change c.args.both.now.maps)) c.in_ok-push.ensures.items ∙ map_push (row_change c.args.both.now.maps) c.args.rows.now.items _
    ∙ ap (λ x. map (row_change c.args.both.now.maps) c.args.rows.now.items ++ x ∷ []) (change_found t u _ true c.args.depth c.args.id.now (c.pair_of-pair.ensures t u tables))

pub returns-clause-told : goal.returns-clause-told
returns-clause-told g c = λ t u tables.
    let s = c.args.both.now.maps.old.map.now.setting in
    let p = c.args.both.now.maps.new.map.now.setting in
    c.is_told.ensures s p c.args.id.now ∙ told_found s p t u _ c.args.id.now (c.pair_of-pair.ensures t u tables)
