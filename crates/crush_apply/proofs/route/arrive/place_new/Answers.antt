use Rattle.std.proofs.Common.{sym, subst, ◌∙◌, refl}
use Rattle.std.specs.Prelude.{None}
use Rattle.crush_model.specs.Forest.{rows_of}
use Rattle.crush_model.specs.ItemRows.{device_row}
use Rattle.crush_model.specs.Stands.{Stands}
use Rattle.crush_model.proofs.Stands.{stands_for_rows}
use Rattle.crush_edits.specs.Put.{put}
use Rattle.crush_edits.specs.declared.refusal.Refusal.TheVariants.{NoRoom, SumTooLarge}
use Rattle.crush_apply.specs.Placed.{CanPutNew}
use Rattle.crush_apply.proofs.Answered.{put_no_room, sums_fail, both_pass, from_yes}
use Rattle.crush_apply.proofs.RolledBack.{when_brought, when_short, when_unnoted}
use Rattle.crush_apply.proofs.Devices.{new_leaf, new_is_put, device_put_new}
use Rattle.crush_apply.proofs.route.arrive.place_new.Goals as goal

pub returns-then-lacks_room_for_new : goal.returns-then-lacks_room_for_new
returns-then-lacks_room_for_new g c =
    when_unnoted _ _ _ NoRoom _ refl refl
    (λ t st. put_no_room (new_is_put t c.args.arrival.now.device c.args.arrival.now.name.now c.args.arrival.now.weight c.args.to.now st.lawful (c.requires.can t st) (c.requires.free t st) (c.requires.gone t st)) (sym (c.lacks_room_for_new.ensures t (new_leaf c.args.arrival.now.device c.args.arrival.now.name.now c.args.arrival.now.weight) st (c.requires.can t st).leads (c.requires.gone t st)) ∙ c.if-lacks_room_for_new.true))

pub fits_put_new-requires-clause-leads : goal.fits_put_new-requires-clause-leads
fits_put_new-requires-clause-leads g c = λ t st. (c.requires.can t st).leads

pub fits_put_new-requires-clause-weight : goal.fits_put_new-requires-clause-weight
fits_put_new-requires-clause-weight g c =
    let f = c.args.hierarchy.now in
    (c.requires.can (rows_of f) (stands_for_rows f c.recall_invariant.ensures)).weight

pub returns-then-not-fits_put_new : goal.returns-then-not-fits_put_new
returns-then-not-fits_put_new g c =
    when_unnoted _ _ _ SumTooLarge _ refl refl
    (λ t st. sums_fail (new_is_put t c.args.arrival.now.device c.args.arrival.now.name.now c.args.arrival.now.weight c.args.to.now st.lawful (c.requires.can t st) (c.requires.free t st) (c.requires.gone t st)) (c.lacks_room_for_new.ensures t (new_leaf c.args.arrival.now.device c.args.arrival.now.name.now c.args.arrival.now.weight) st (c.requires.can t st).leads (c.requires.gone t st)) c.if-lacks_room_for_new.false (λ room. c.fits_put_new.ensures t (new_leaf c.args.arrival.now.device c.args.arrival.now.name.now c.args.arrival.now.weight) st (c.requires.gone t st) refl) c.if-not-fits_put_new.true)

pub returns-in_err-leaf : goal.returns-in_err-leaf
returns-in_err-leaf g c =
    when_short _ _ _ _ c.from_residual.ensures.1 refl
    (λ t st. (c.args.to.now.fresh, put t (device_row None (new_leaf c.args.arrival.now.device c.args.arrival.now.name.now c.args.arrival.now.weight)) c.args.to.now.stops, both_pass (new_is_put t c.args.arrival.now.device c.args.arrival.now.name.now c.args.arrival.now.weight c.args.to.now st.lawful (c.requires.can t st) (c.requires.free t st) (c.requires.gone t st)) (c.lacks_room_for_new.ensures t (new_leaf c.args.arrival.now.device c.args.arrival.now.name.now c.args.arrival.now.weight) st (c.requires.can t st).leads (c.requires.gone t st)) c.if-lacks_room_for_new.false (λ room. c.fits_put_new.ensures t (new_leaf c.args.arrival.now.device c.args.arrival.now.name.now c.args.arrival.now.weight) st (c.requires.gone t st) refl) c.if-not-fits_put_new.false))

pub put_new-requires-clause-leads : goal.put_new-requires-clause-leads
put_new-requires-clause-leads g c = λ t st. (c.requires.can t st).leads

pub put_new-requires-clause-can : goal.put_new-requires-clause-can
put_new-requires-clause-can g c = λ t st.
    let room = sym (c.lacks_room_for_new.ensures t (new_leaf c.args.arrival.now.device c.args.arrival.now.name.now c.args.arrival.now.weight) st (c.requires.can t st).leads (c.requires.gone t st)) ∙ c.if-lacks_room_for_new.false in
    let light = from_yes c.fits_put_new.result _ (c.fits_put_new.ensures t (new_leaf c.args.arrival.now.device c.args.arrival.now.name.now c.args.arrival.now.weight) st (c.requires.gone t st) refl) c.if-not-fits_put_new.false in
    subst (λ d. CanPutNew t d c.args.to.now.stops) (sym c.in_ok-leaf.ensures)
    (device_put_new t c.args.arrival.now.device c.args.arrival.now.name.now c.args.arrival.now.weight c.args.to.now (c.requires.can t st) (c.requires.gone t st) c.number-number.ensures.range c.as_str-text.ensures.name room light)

pub returns-in_err-undo : goal.returns-in_err-undo
returns-in_err-undo g c =
    when_short _ _ _ _ c.from_residual-in_err-undo.ensures.1 c.in_err-undo.ensures.unchanged
    (λ t st. (c.args.to.now.fresh, put t (device_row None (new_leaf c.args.arrival.now.device c.args.arrival.now.name.now c.args.arrival.now.weight)) c.args.to.now.stops, both_pass (new_is_put t c.args.arrival.now.device c.args.arrival.now.name.now c.args.arrival.now.weight c.args.to.now st.lawful (c.requires.can t st) (c.requires.free t st) (c.requires.gone t st)) (c.lacks_room_for_new.ensures t (new_leaf c.args.arrival.now.device c.args.arrival.now.name.now c.args.arrival.now.weight) st (c.requires.can t st).leads (c.requires.gone t st)) c.if-lacks_room_for_new.false (λ room. c.fits_put_new.ensures t (new_leaf c.args.arrival.now.device c.args.arrival.now.name.now c.args.arrival.now.weight) st (c.requires.gone t st) refl) c.if-not-fits_put_new.false))

pub returns : goal.returns
returns g c =
    when_brought _ _ _ _ c.args.to.now.fresh _ c.done_at.ensures
    (λ t st.
    let after = put t (device_row None (new_leaf c.args.arrival.now.device c.args.arrival.now.name.now c.args.arrival.now.weight)) c.args.to.now.stops in (
      after,
      both_pass (new_is_put t c.args.arrival.now.device c.args.arrival.now.name.now c.args.arrival.now.weight c.args.to.now st.lawful (c.requires.can t st) (c.requires.free t st) (c.requires.gone t st)) (c.lacks_room_for_new.ensures t (new_leaf c.args.arrival.now.device c.args.arrival.now.name.now c.args.arrival.now.weight) st (c.requires.can t st).leads (c.requires.gone t st)) c.if-lacks_room_for_new.false (λ room. c.fits_put_new.ensures t (new_leaf c.args.arrival.now.device c.args.arrival.now.name.now c.args.arrival.now.weight) st (c.requires.gone t st) refl) c.if-not-fits_put_new.false,
      subst (λ d. Stands c.put_new.new.hierarchy (put t (device_row None d) c.args.to.now.stops)) c.in_ok-leaf.ensures (c.in_ok-undo.ensures.stands t st),
    ))
    c.in_ok-undo.ensures.undoes
