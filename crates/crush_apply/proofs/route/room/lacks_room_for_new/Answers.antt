use Rattle.std.proofs.Common.{◌+◌, ◌∙◌}
use Rattle.std.specs.Prelude.{nat_lt}
use Rattle.crush_units.specs.declared.limits.TheConstants.{MOST_BUCKETS}
use Rattle.crush_apply.proofs.Fitting.{lacks_room_new, full_of_devices, room_for_devices}
use Rattle.crush_apply.proofs.route.room.lacks_room_for_new.Goals as goal

pub returns-then-counts-ge-MOST_DEVICES : goal.returns-then-counts-ge-MOST_DEVICES
returns-then-counts-ge-MOST_DEVICES g c = λ t d st leads gone.
    let counts = c.counts-counts.result in
    let fresh = c.fresh-fresh.result in
    full_of_devices counts.devices (nat_lt MOST_BUCKETS (counts.buckets + fresh)) c.if-counts-ge-MOST_DEVICES.true
    ∙ lacks_room_new t c.args.to.now d fresh counts.devices counts.buckets st.lawful leads c.fresh-fresh.ensures.value gone (c.counts-counts.ensures.devices t st) (c.counts-counts.ensures.buckets t st)

pub returns-else-counts-ge-MOST_DEVICES : goal.returns-else-counts-ge-MOST_DEVICES
returns-else-counts-ge-MOST_DEVICES g c = λ t d st leads gone.
    let counts = c.counts-counts.result in
    let fresh = c.fresh-fresh.result in
    room_for_devices counts.devices (nat_lt MOST_BUCKETS (counts.buckets + fresh)) c.if-counts-ge-MOST_DEVICES.false
    ∙ lacks_room_new t c.args.to.now d fresh counts.devices counts.buckets st.lawful leads c.fresh-fresh.ensures.value gone (c.counts-counts.ensures.devices t st) (c.counts-counts.ensures.buckets t st)
