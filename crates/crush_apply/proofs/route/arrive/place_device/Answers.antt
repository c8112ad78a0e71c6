use Rattle.std.proofs.Common.{true, false, ap, sym, ◌∙◌, refl}
use Rattle.std.specs.Prelude.{not}
use Rattle.crush_units.specs.declared.id.ItemId.TheVariants.{Device}
use Rattle.crush_model.specs.Forest.{rows_of}
use Rattle.crush_model.specs.Table.{row_of}
use Rattle.crush_model.proofs.Moved.{row_id}
use Rattle.crush_model.proofs.Stands.{stands_for_rows}
use Rattle.crush_edits.specs.Put.{put}
use Rattle.crush_edits.specs.declared.refusal.Refusal.TheVariants.{NoRoom, SumTooLarge}
use Rattle.crush_apply.proofs.Answered.{put_no_room, sums_fail, both_pass, from_yes}
use Rattle.crush_apply.proofs.RolledBack.{when_brought, when_short, when_unnoted}
use Rattle.crush_apply.proofs.Devices.{kind_tells, device_moves, own_row, put_own}
use Rattle.crush_apply.proofs.route.arrive.place_device.Goals as goal

pub place_new-requires-clause-gone : goal.place_new-requires-clause-gone
place_new-requires-clause-gone g c = λ t st. kind_tells t (Device c.args.arrival.now.device) c.kind.result false (c.kind.ensures t st) (c.is_none.ensures ∙ ap not c.if-is_none.true)

pub returns-then-lacks_room : goal.returns-then-lacks_room
returns-then-lacks_room g c =
    when_unnoted _ _ _ NoRoom _ refl refl
    (λ t st.
    let w = c.args.arrival.now.weight in
    let can = c.requires.can t st in
    let own = own_row t c.args.arrival.now.device c.args.arrival.now.name.now w c.args.to.now st.lawful can (c.requires.free t st) (kind_tells t (Device c.args.arrival.now.device) c.kind.result true (c.kind.ensures t st) (c.is_none.ensures ∙ ap not c.if-is_none.false)) in
    put_no_room own.put (sym (c.lacks_room.ensures t own.row st can.leads own.own w) ∙ c.if-lacks_room.true))

pub fits_put_device-requires-clause-can : goal.fits_put_device-requires-clause-can
fits_put_device-requires-clause-can g c = λ t st.
    device_moves t c.args.arrival.now.device c.args.arrival.now.name.now c.args.arrival.now.weight c.args.to.now (c.requires.can t st) (kind_tells t (Device c.args.arrival.now.device) c.kind.result true (c.kind.ensures t st) (c.is_none.ensures ∙ ap not c.if-is_none.false))

pub fits_put_device-requires-clause-weight : goal.fits_put_device-requires-clause-weight
fits_put_device-requires-clause-weight g c =
    let f = c.args.hierarchy.now in
    (c.requires.can (rows_of f) (stands_for_rows f c.recall_invariant.ensures)).weight

pub returns-then-not-fits_put_device : goal.returns-then-not-fits_put_device
returns-then-not-fits_put_device g c =
    when_unnoted _ _ _ SumTooLarge _ refl refl
    (λ t st.
    let w = c.args.arrival.now.weight in
    let can = c.requires.can t st in
    let own = own_row t c.args.arrival.now.device c.args.arrival.now.name.now w c.args.to.now st.lawful can (c.requires.free t st) (kind_tells t (Device c.args.arrival.now.device) c.kind.result true (c.kind.ensures t st) (c.is_none.ensures ∙ ap not c.if-is_none.false)) in
    sums_fail own.put (c.lacks_room.ensures t own.row st can.leads own.own w) c.if-lacks_room.false (c.fits_put_device.ensures t own.row st own.found) c.if-not-fits_put_device.true)

pub put_device-requires-clause-weight : goal.put_device-requires-clause-weight
put_device-requires-clause-weight g c =
    let f = c.args.hierarchy.now in
    (c.requires.can (rows_of f) (stands_for_rows f c.recall_invariant.ensures)).weight

pub put_device-requires-clause-moves : goal.put_device-requires-clause-moves
put_device-requires-clause-moves g c = λ t st.
    device_moves t c.args.arrival.now.device c.args.arrival.now.name.now c.args.arrival.now.weight c.args.to.now (c.requires.can t st) (kind_tells t (Device c.args.arrival.now.device) c.kind.result true (c.kind.ensures t st) (c.is_none.ensures ∙ ap not c.if-is_none.false))

pub put_device-requires-clause-can : goal.put_device-requires-clause-can
put_device-requires-clause-can g c = λ t r st found.
    let w = c.args.arrival.now.weight in
    let room = sym (c.lacks_room.ensures t r st (c.requires.can t st).leads (ap (row_of t) (row_id (Device c.args.arrival.now.device) t r found) ∙ found) w) ∙ c.if-lacks_room.false in
    put_own t c.args.arrival.now.device w c.args.to.now r found room (from_yes c.fits_put_device.result _ (c.fits_put_device.ensures t r st found room) c.if-not-fits_put_device.false)

pub returns-in_err-undo : goal.returns-in_err-undo
returns-in_err-undo g c =
    when_short _ _ _ _ c.from_residual.ensures.1 c.in_err-undo.ensures.unchanged
    (λ t st.
    let w = c.args.arrival.now.weight in
    let can = c.requires.can t st in
    let own = own_row t c.args.arrival.now.device c.args.arrival.now.name.now w c.args.to.now st.lawful can (c.requires.free t st) (kind_tells t (Device c.args.arrival.now.device) c.kind.result true (c.kind.ensures t st) (c.is_none.ensures ∙ ap not c.if-is_none.false)) in
    let made = both_pass own.put (c.lacks_room.ensures t own.row st can.leads own.own w) c.if-lacks_room.false (c.fits_put_device.ensures t own.row st own.found) c.if-not-fits_put_device.false in
    (c.args.to.now.fresh, put t (record own.row { weight = w }) c.args.to.now.stops, made))

pub returns : goal.returns
returns g c =
    when_brought _ _ _ _ c.args.to.now.fresh _ c.done_at.ensures
    (λ t st.
    let w = c.args.arrival.now.weight in
    let can = c.requires.can t st in
    let own = own_row t c.args.arrival.now.device c.args.arrival.now.name.now w c.args.to.now st.lawful can (c.requires.free t st) (kind_tells t (Device c.args.arrival.now.device) c.kind.result true (c.kind.ensures t st) (c.is_none.ensures ∙ ap not c.if-is_none.false)) in
    let after = put t (record own.row { weight = w }) c.args.to.now.stops in
    let made = both_pass own.put (c.lacks_room.ensures t own.row st can.leads own.own w) c.if-lacks_room.false (c.fits_put_device.ensures t own.row st own.found) c.if-not-fits_put_device.false in
    (after, made, c.in_ok-undo.ensures.stands t own.row st own.found))
    c.in_ok-undo.ensures.undoes
