use Rattle.std.proofs.Common.{ap, sym, ◌∙◌, refl}
use Rattle.crush_model.specs.Table.{row_of}
use Rattle.crush_model.proofs.Moved.{row_id}
use Rattle.crush_edits.specs.Put.{put}
use Rattle.crush_edits.specs.declared.refusal.Refusal.TheVariants.{NoRoom, SumTooLarge}
use Rattle.crush_apply.proofs.Answered.{put_no_room, sums_fail, both_pass, from_yes}
use Rattle.crush_apply.proofs.RolledBack.{when_brought, when_short, when_unnoted}
use Rattle.crush_apply.proofs.Moves.{own_item, put_own_item}
use Rattle.crush_apply.proofs.route.arrive.place_item.Goals as goal

pub returns-then-lacks_room : goal.returns-then-lacks_room
returns-then-lacks_room g c =
    when_unnoted _ _ _ NoRoom _ refl refl
    (λ t st.
    let can = c.requires.can t st in
    let item = own_item t c.args.id c.args.to.now st.lawful can (c.requires.free t st) in
    put_no_room item.put (sym (c.lacks_room.ensures t item.row st can.leads item.own item.row.weight) ∙ c.if-lacks_room.true))

pub returns-then-not-fits_put_item : goal.returns-then-not-fits_put_item
returns-then-not-fits_put_item g c =
    when_unnoted _ _ _ SumTooLarge _ refl refl
    (λ t st.
    let can = c.requires.can t st in
    let item = own_item t c.args.id c.args.to.now st.lawful can (c.requires.free t st) in
    sums_fail item.put (c.lacks_room.ensures t item.row st can.leads item.own item.row.weight) c.if-lacks_room.false (c.fits_put_item.ensures t item.row st item.found) c.if-not-fits_put_item.true)

pub put_item-requires-clause-can : goal.put_item-requires-clause-can
put_item-requires-clause-can g c = λ t r st found.
    let can = c.requires.can t st in
    let room = sym (c.lacks_room.ensures t r st can.leads (ap (row_of t) (row_id c.args.id t r found) ∙ found) r.weight) ∙ c.if-lacks_room.false in
    put_own_item t c.args.id c.args.to.now r can found room (from_yes c.fits_put_item.result _ (c.fits_put_item.ensures t r st found room) c.if-not-fits_put_item.false)

pub returns-in_err-undo : goal.returns-in_err-undo
returns-in_err-undo g c =
    when_short _ _ _ _ c.from_residual.ensures.1 c.in_err-undo.ensures.unchanged
    (λ t st.
    let can = c.requires.can t st in
    let item = own_item t c.args.id c.args.to.now st.lawful can (c.requires.free t st) in
    let made = both_pass item.put (c.lacks_room.ensures t item.row st can.leads item.own item.row.weight) c.if-lacks_room.false (c.fits_put_item.ensures t item.row st item.found) c.if-not-fits_put_item.false in
    (c.args.to.now.fresh, put t item.row c.args.to.now.stops, made))

pub returns : goal.returns
returns g c =
    when_brought _ _ _ _ c.args.to.now.fresh _ c.done_at.ensures
    (λ t st.
    let can = c.requires.can t st in
    let item = own_item t c.args.id c.args.to.now st.lawful can (c.requires.free t st) in
    let after = put t item.row c.args.to.now.stops in
    let made = both_pass item.put (c.lacks_room.ensures t item.row st can.leads item.own item.row.weight) c.if-lacks_room.false (c.fits_put_item.ensures t item.row st item.found) c.if-not-fits_put_item.false in
    (after, made, c.in_ok-undo.ensures.stands t item.row st item.found))
    c.in_ok-undo.ensures.undoes
