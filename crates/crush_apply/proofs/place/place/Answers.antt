use Rattle.std.proofs.Common.{◌≡◌, true, false, ap, sym, ◌∙◌, refl}
use Rattle.crush_units.specs.declared.id.ItemId.TheVariants.{Device}
use Rattle.crush_model.specs.Forest.{rows_of}
use Rattle.crush_model.proofs.Stands.{stands_for_rows}
use Rattle.crush_edits.specs.declared.refusal.Refusal.TheVariants.{AlreadyPlaced}
use Rattle.crush_edits.specs.Placing.{put_after, edited_device}
use Rattle.crush_edits.specs.Put.{held}
use Rattle.crush_edits.specs.Stops.{stops}
use Rattle.crush_apply.specs.Answered.{last_answer}
use Rattle.crush_apply.proofs.RolledBack.{when_alike, when_unnoted}
use Rattle.crush_apply.proofs.Asked.{located, can_come}
use Rattle.crush_apply.proofs.Placings.{device_refused, barred, end_refused, stays, comes}
use Rattle.crush_apply.proofs.place.place.Goals as goal

pub returns-in_err-check_device : goal.returns-in_err-check_device
returns-in_err-check_device g c =
    let a = c.args.arrival.now in
    when_unnoted _ _ _ _ _ c.from_residual.ensures.1 refl
    (λ t st. device_refused c.args.setting.now t a.device a.name.now a.weight a.at.now c.args.how _ (c.in_err-check_device.ensures.refused t st))

pub returns-then-is_barred : goal.returns-then-is_barred
returns-then-is_barred g c =
    let a = c.args.arrival.now in
    when_unnoted _ _ _ AlreadyPlaced _ refl refl
    (λ t st. barred c.args.setting.now t a.device a.name.now a.weight a.at.now c.args.how (c.in_ok-check_device.ensures.passes t st) (sym (c.is_barred.ensures t st) ∙ c.if-is_barred.true))

pub destination_of-requires-clause-located : goal.destination_of-requires-clause-located
destination_of-requires-clause-located g c =
    let f = c.args.hierarchy.now in
    let a = c.args.arrival.now in
    located c.args.setting.now (rows_of f) a.device a.name.now a.weight a.at.now (c.in_ok-check_device.ensures.passes (rows_of f) (stands_for_rows f c.recall_invariant.ensures))

pub returns-in_err-to : goal.returns-in_err-to
returns-in_err-to g c =
    let a = c.args.arrival.now in
    when_unnoted _ _ _ _ _ c.from_residual-in_err-to.ensures.1 refl
    (λ t st. end_refused c.args.setting.now t a.device a.name.now a.weight a.at.now c.args.how _ (c.in_ok-check_device.ensures.passes t st) (sym (c.is_barred.ensures t st) ∙ c.if-is_barred.false) (c.in_err-to.ensures.refused t st))

pub returns-then-is_held : goal.returns-then-is_held
returns-then-is_held g c =
    let s = c.args.setting.now in
    let a = c.args.arrival.now in
    when_alike _ _ _ _ _
    (λ t st.
    let can = can_come s t a.device a.name.now a.weight a.at.now c.in_ok-to.to (c.in_ok-check_device.ensures.passes t st) c.in_ok-to.ensures.stops (c.in_ok-to.ensures.leads t st) in
    let there : held t (Device a.device) (stops s a.at.now) ≡ true = ap (held t (Device a.device)) (sym c.in_ok-to.ensures.stops) ∙ sym (c.is_held.ensures t st (c.in_ok-to.ensures.leads t st)) ∙ c.if-is_held.true in
    stays s t a.device a.name.now a.weight a.at.now (c.in_ok-check_device.ensures.passes t st) (c.in_ok-to.ensures.passes t st) c.args.how (sym (c.is_barred.ensures t st) ∙ c.if-is_barred.false) can.own can.weight there st.lawful)
    (c.stay.ensures s)

pub coming_weight-weight-requires : goal.coming_weight-weight-requires
coming_weight-weight-requires g c =
    let f = c.args.hierarchy.now in
    let a = c.args.arrival.now in
    let st = stands_for_rows f c.recall_invariant.ensures in
    (can_come c.args.setting.now (rows_of f) a.device a.name.now a.weight a.at.now c.in_ok-to.to (c.in_ok-check_device.ensures.passes (rows_of f) st) c.in_ok-to.ensures.stops (c.in_ok-to.ensures.leads (rows_of f) st)).weight

pub place_device-requires-clause-can : goal.place_device-requires-clause-can
place_device-requires-clause-can g c = λ t st.
    let a = c.args.arrival.now in
    let can = can_come c.args.setting.now t a.device a.name.now a.weight a.at.now c.in_ok-to.to (c.in_ok-check_device.ensures.passes t st) c.in_ok-to.ensures.stops (c.in_ok-to.ensures.leads t st) in
    record { leads = can.leads; own = can.own; other = can.other; weight = c.coming_weight-weight.ensures.light }

pub place_device-requires-clause-free : goal.place_device-requires-clause-free
place_device-requires-clause-free g c = λ t st. sym (c.is_held.ensures t st (c.in_ok-to.ensures.leads t st)) ∙ c.if-is_held.false

pub returns : goal.returns
returns g c =
    let s = c.args.setting.now in
    let a = c.args.arrival.now in
    let d = a.device in
    let n = a.name.now in
    let l = a.at.now in
    when_alike _ _ _ _ _
    (λ t st.
    let out : held t (Device d) (stops s l) ≡ false = ap (held t (Device d)) (sym c.in_ok-to.ensures.stops) ∙ sym (c.is_held.ensures t st (c.in_ok-to.ensures.leads t st)) ∙ c.if-is_held.false in
    comes s t d n a.weight l (c.in_ok-check_device.ensures.passes t st) (c.in_ok-to.ensures.passes t st) c.args.how (sym (c.is_barred.ensures t st) ∙ c.if-is_barred.false) out
    ∙ ap (λ v. last_answer t (put_after t (edited_device t d n v) (stops s l))) (sym (c.coming_weight-weight.ensures.coming t st))
    ∙ ap (λ ps. last_answer t (put_after t (edited_device t d n c.coming_weight-weight.result) ps)) (sym c.in_ok-to.ensures.stops))
    c.place_device.ensures
