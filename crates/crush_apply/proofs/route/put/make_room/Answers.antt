use Rattle.std.proofs.Common.{◌≡◌, ◌≤◌, ◌++◌, List, true, ap, sym, subst, ◌∙◌, refl, arith}
use Rattle.crush_model.specs.Forest.{rows_of}
use Rattle.crush_model.specs.ItemRows.{rows}
use Rattle.crush_model.specs.Lawful.{Lawful}
use Rattle.crush_model.specs.Stands.{Stands}
use Rattle.crush_model.specs.Table.{Row}
use Rattle.crush_model.proofs.Stands.{stands_for_rows}
use Rattle.crush_nodes.specs.Ops.{is_place}
use Rattle.crush_edits.specs.LawRoute.{rows_made}
use Rattle.crush_edits.proofs.PutLaws.{new_lawful}
use Rattle.crush_apply.specs.Placed.{place_at, new_boxes}
use Rattle.crush_apply.specs.Stopped.{stops_data}
use Rattle.crush_apply.proofs.Destinations.{place_there, fresh_forms, rows_are, next_is, next_receives, none_made, receives}
use Rattle.crush_apply.proofs.Undone.{no_room_made, noted_memory, room_as}
use Rattle.crush_apply.proofs.route.put.make_room.Goals as goal

pub attach_new-requires-clause-some : goal.attach_new-requires-clause-some
attach_new-requires-clause-some g c = omega (arith, c.new_stops.ensures.many, c.fresh.ensures.value, c.if-fresh-gt0.true)

pub attach_new-requires-clause-few : goal.attach_new-requires-clause-few
attach_new-requires-clause-few g c = c.new_stops.ensures.few

pub attach_new-requires-clause-forms : goal.attach_new-requires-clause-forms
attach_new-requires-clause-forms g c =
    let f = c.args.hierarchy.now in
    fresh_forms (rows_of f) c.new_stops.result.0.now c.new_stops.result.1.now c.args.to.now c.new_stops.ensures.stops (c.requires.leads (rows_of f) (stands_for_rows f c.recall_invariant.ensures))

pub attach_new-requires-clause-there : goal.attach_new-requires-clause-there
attach_new-requires-clause-there g c =
    let f = c.args.hierarchy.now in
    subst (λ o. is_place (rows_of f) (place_at o) ≡ true) (sym c.receiver.ensures) (place_there (rows_of f) c.args.to.now (c.requires.leads (rows_of f) (stands_for_rows f c.recall_invariant.ensures)))

pub attach_new-requires-clause-fits : goal.attach_new-requires-clause-fits
attach_new-requires-clause-fits g c =
    let f = c.args.hierarchy.now in
    let t : List Row = rows_of f in
    let st = stands_for_rows f c.recall_invariant.ensures in
    let leads = c.requires.leads t st in
    let lawful : Lawful (t ++ rows_made t c.args.to.now.stops) = new_lawful t c.args.to.now.stops st.lawful leads.route (c.requires.counts t st) in
    subst (λ o. Lawful (t ++ rows o (new_boxes t (stops_data c.new_stops.result.0.now c.new_stops.result.1.now)))) (sym c.receiver.ensures)
    (subst (λ z. Lawful (t ++ z)) (sym (rows_are t c.new_stops.result.0.now c.new_stops.result.1.now c.args.to.now c.new_stops.ensures.stops leads)) lawful)

pub returns-then-fresh-gt0 : goal.returns-then-fresh-gt0
returns-then-fresh-gt0 g c =
    let l = c.new_stops.result.0.now in
    let xs = c.new_stops.result.1.now in
    let to = c.args.to.now in
    room_as _ _ _ _ c.args.hierarchy.now c.attach_new.new.hierarchy c.attach_new.result
    (λ t st. ap (λ o. rows o (new_boxes t (stops_data l xs))) c.receiver.ensures ∙ rows_are t l xs to c.new_stops.ensures.stops (c.requires.leads t st))
    (λ t b st next. next_is t l xs to c.new_stops.ensures.stops (c.requires.leads t st) b next)
    c.attach_new.ensures

pub unreachable-requires : goal.unreachable-requires
unreachable-requires g c =
    let f = c.args.hierarchy.now in
    receives (rows_of f) c.args.to.now (c.requires.leads (rows_of f) (stands_for_rows f c.recall_invariant.ensures)) (omega (arith, c.fresh.ensures.value, c.if-fresh-gt0.false)) (sym c.receiver-2.ensures ∙ c.in_default.is)

pub grow_buffer-requires : goal.grow_buffer-requires
grow_buffer-requires g c =
    let f = c.args.hierarchy.now in
    subst (λ o. is_place (rows_of f) (place_at o) ≡ true) (sym c.receiver-2.ensures ∙ c.in-Some.is) (place_there (rows_of f) c.args.to.now (c.requires.leads (rows_of f) (stands_for_rows f c.recall_invariant.ensures)))

pub returns-in_err-memory : goal.returns-in_err-memory
returns-in_err-memory g c = no_room_made _ _ _ _ _ _ c.from_residual.ensures.1 c.in_err-memory.ensures.err

pub returns : goal.returns
returns g c =
    let few : c.args.to.now.fresh ≤ 0 = omega (arith, c.fresh.ensures.value, c.if-fresh-gt0.false) in
    record {
      next = λ t st. next_receives t c.args.to.now (c.requires.leads t st) few ∙ sym c.receiver-2.ensures ∙ c.in-Some.is;
      stands = λ t st. subst (Stands c.grow_buffer.new.self) (none_made t c.args.to.now (c.requires.leads t st) few) (c.in_ok-memory.ensures.stands t st);
      room = c.in_ok-memory.ensures.room;
      goes = record { without = c.grow_buffer.new.self; leaves = refl; memory = noted_memory _ c.in_ok-memory.memory c.args.hierarchy.now c.grow_buffer.new.self c.in_ok-memory.ensures };
      unchanged = tt;
    }
