use Rattle.std.proofs.Common.{◌∙◌, ap, map}
use Rattle.std.specs.List.{slice_get}
use Rattle.std.specs.Prelude.{option_and_then}
use Rattle.crush_items.specs.Items.{item_entry}
use Rattle.crush_since.proofs.FoundLaws.{placed}
use Rattle.crush_since.proofs.changes.both.Both.pair_of.Goals as goal

pub returns : goal.returns
returns g c = λ t u tables.
    let es = map item_entry c.args.self.now.maps.old.all.items in
    let fs = map item_entry c.args.self.now.maps.new.all.items in
    let before = ap (option_and_then (slice_get es)) c.position.ensures ∙ placed es _ _ (c.find.ensures.entry t es tables.old.lawful tables.before) in
    let after = ap (option_and_then (slice_get fs)) c.position-2.ensures ∙ placed fs _ _ (c.find-2.ensures.entry u fs tables.new.lawful tables.after) in
    λ k. record { before = before k; after = after k }
