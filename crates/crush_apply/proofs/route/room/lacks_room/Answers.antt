use Rattle.crush_apply.proofs.Fitting.{lacks_room_is}
use Rattle.crush_apply.proofs.route.room.lacks_room.Goals as goal

pub returns : goal.returns
returns g c = λ t r st leads found w. lacks_room_is t c.args.to.now r w c.fresh.result c.counts.result.buckets st.lawful leads c.fresh.ensures.value found (c.counts.ensures.buckets t st)
