-- The item in the builder's forest, with what `ItemTaken` proves about it.
use Rattle.std.proofs.Common.{rules, ◌≡◌, ℕ, ◌+◌, ◌++◌, true, List, subst, sym, ap, arith}
use Rattle.std.specs.Prelude.{Some}
use Rattle.crush_model.specs.Items.{Items}
use Rattle.crush_model.specs.Table.{Row, is_there}
use Rattle.crush_model.specs.Columns.{table_without}
use Rattle.crush_model.specs.Lawful.{Lawful}
use Rattle.crush_model.specs.Forest.{ForestData, rows_of, all_items}
use Rattle.crush_model.specs.ItemRows.{rows}
use Rattle.crush_model.specs.Stands.{Stands}
use Rattle.crush_units.specs.declared.id.ItemId.TheVariants.{Bucket}
use Rattle.crush_nodes.specs.Ops.{part_of}
use Rattle.crush_builder.specs.Pending.{pending_data, with_first_weight}
use Rattle.crush_map.specs.WrittenItems.{weight_or_one, adjustment}
use Rattle.crush_builder.specs.Built.{Draft, with_next_item}
use Rattle.crush_builder.specs.Building.{BuilderData, IsDraft, own_draft, is_open}
use Rattle.crush_builder.proofs.Drafts.{own_is_draft, draft_fits}
use Rattle.crush_builder.proofs.Faults.{closed_there}
use Rattle.crush_builder.proofs.Held.{held_at_most}
use Rattle.crush_builder.proofs.ItemTaken.{Coming, IsClear, item_clear, light_device, clear_comes, adjustment_most, left_there, can_put, put_is_draft}
use Rattle.crush_builder.proofs.builder.MapBuilder.take_item.Goals as goal

pub recall_part-requires : goal.recall_part-requires
recall_part-requires g c =
    let b : BuilderData = record { setting = c.self.inside.setting; forest = c.self.inside.hierarchy; pending = pending_data c.self.inside.pending; adjusted = c.self.inside.adjusted } in
    let own : IsDraft b (own_draft b) = own_is_draft b c.recall_invariant.ensures c.self.invariant in
    let own_at : IsDraft c.args.self.now (own_draft b) = subst (λ (x : BuilderData). IsDraft x (own_draft b)) c.self.view_is own in
    let clear : IsClear (own_draft b) c.args.id c.args.written = item_clear (own_draft b) c.args.id c.args.written (c.requires.clear (own_draft b) own_at) in
    subst (λ t. is_there t c.args.id ≡ true) (sym c.reserve.ensures.rows) (closed_there (is_there (rows_of b.forest) c.args.id) (is_open b.pending c.args.id) clear.closed)

pub put-requires : goal.put-requires
put-requires g c =
    let b : BuilderData = record { setting = c.self.inside.setting; forest = c.self.inside.hierarchy; pending = pending_data c.self.inside.pending; adjusted = c.self.inside.adjusted } in
    let own : IsDraft b (own_draft b) = own_is_draft b c.recall_invariant.ensures c.self.invariant in
    let own_at : IsDraft c.args.self.now (own_draft b) = subst (λ (x : BuilderData). IsDraft x (own_draft b)) c.self.view_is own in
    let clear : IsClear (own_draft b) c.args.id c.args.written = item_clear (own_draft b) c.args.id c.args.written (c.requires.clear (own_draft b) own_at) in
    let k : ℕ = c.in-Filling.bucket in
    let h : ForestData = c.reserve.new.self in
    let n : Items = part_of c.args.id (all_items h) in
    let took : Coming b c.args.id k n = clear_comes b c.args.self.now c.args.id k n c.args.written c.self.view_is c.recall_invariant.ensures c.self.invariant (ap pending_data c.in-Filling.is) c.requires.clear (λ t st. c.recall_part.ensures.rows t (c.reserve.ensures.stands t st)) c.recall_part.ensures.one c.recall_part.ensures.sums in
    record {
      there = subst (λ t. is_there t c.args.id ≡ true) (sym c.reserve.ensures.rows) (closed_there (is_there (rows_of b.forest) c.args.id) (is_open b.pending c.args.id) clear.closed);
      place = subst (λ (t : List Row). is_there (table_without c.args.id t) (Bucket k) ≡ true) (sym c.reserve.ensures.rows) (left_there b c.args.id k n took (own_draft b) took.own);
      room = search rules;
      fits =
          subst (λ w. Lawful (table_without c.args.id (rows_of h) ++ rows (Some k) (with_first_weight w n))) (sym c.device_weight-weight.ensures)
          (subst (λ (t : List Row). Lawful (table_without c.args.id t ++ rows (Some k) (with_first_weight (weight_or_one c.args.written) n))) (sym c.reserve.ensures.rows)
          (can_put b c.args.id k n took (weight_or_one c.args.written) (light_device c.args.id c.args.written clear.light) clear.sums));
    }

pub overflow_add-self : goal.overflow_add-self
overflow_add-self g c =
    let b : BuilderData = record { setting = c.self.inside.setting; forest = c.self.inside.hierarchy; pending = pending_data c.self.inside.pending; adjusted = c.self.inside.adjusted } in
    let own : IsDraft b (own_draft b) = own_is_draft b c.recall_invariant.ensures c.self.invariant in
    let own_at : IsDraft c.args.self.now (own_draft b) = subst (λ (x : BuilderData). IsDraft x (own_draft b)) c.self.view_is own in
    let clear : IsClear (own_draft b) c.args.id c.args.written = item_clear (own_draft b) c.args.id c.args.written (c.requires.clear (own_draft b) own_at) in
    let there : is_there (rows_of b.forest) c.args.id ≡ true = closed_there _ (is_open b.pending c.args.id) clear.closed in
    let more : c.adjustment-adjustment.result ≡ adjustment (rows_of b.forest) c.args.id c.args.written = c.adjustment-adjustment.ensures (own_draft b) own_at there in
    omega (arith, more, adjustment_most (rows_of b.forest) c.args.id c.args.written, c.self.invariant.few, held_at_most (rows_of b.forest) own.stands.lawful)

pub invariant_of-self-2 : goal.invariant_of-self-2
invariant_of-self-2 g c =
    let b : BuilderData = record { setting = c.self.inside.setting; forest = c.self.inside.hierarchy; pending = pending_data c.self.inside.pending; adjusted = c.self.inside.adjusted } in
    let own : IsDraft b (own_draft b) = own_is_draft b c.recall_invariant.ensures c.self.invariant in
    let own_at : IsDraft c.args.self.now (own_draft b) = subst (λ (x : BuilderData). IsDraft x (own_draft b)) c.self.view_is own in
    let k : ℕ = c.in-Filling.bucket in
    let h : ForestData = c.reserve.new.self in
    let n : Items = part_of c.args.id (all_items h) in
    let took : Coming b c.args.id k n = clear_comes b c.args.self.now c.args.id k n c.args.written c.self.view_is c.recall_invariant.ensures c.self.invariant (ap pending_data c.in-Filling.is) c.requires.clear (λ t st. c.recall_part.ensures.rows t (c.reserve.ensures.stands t st)) c.recall_part.ensures.one c.recall_part.ensures.sums in
    let d : Draft = own_draft b in
    let at : IsDraft b d = own in
    let st : Stands c.put.new.self (table_without c.args.id d.table ++ rows (Some k) (with_first_weight (weight_or_one c.args.written) n)) =
    subst (λ w. Stands c.put.new.self (table_without c.args.id d.table ++ rows (Some k) (with_first_weight w n))) c.device_weight-weight.ensures (c.put.ensures.puts.stands d.table (c.reserve.ensures.stands d.table at.stands)) in
    draft_fits (record b { forest = c.put.new.self; adjusted = b.adjusted + c.adjustment-adjustment.result }) (with_next_item d c.args.id c.args.written)
    (put_is_draft b c.args.id k n took c.put.new.self c.args.written d at st c.adjustment-adjustment.result (c.adjustment-adjustment.ensures d own_at (took.there d at)))

pub returns : goal.returns
returns g c =
    λ d i.
    let b : BuilderData = record { setting = c.self.inside.setting; forest = c.self.inside.hierarchy; pending = pending_data c.self.inside.pending; adjusted = c.self.inside.adjusted } in
    let k : ℕ = c.in-Filling.bucket in
    let h : ForestData = c.reserve.new.self in
    let n : Items = part_of c.args.id (all_items h) in
    let took : Coming b c.args.id k n = clear_comes b c.args.self.now c.args.id k n c.args.written c.self.view_is c.recall_invariant.ensures c.self.invariant (ap pending_data c.in-Filling.is) c.requires.clear (λ t st. c.recall_part.ensures.rows t (c.reserve.ensures.stands t st)) c.recall_part.ensures.one c.recall_part.ensures.sums in
    let at : IsDraft b d = subst (λ (x : BuilderData). IsDraft x d) (sym c.self.view_is) i in
    let st : Stands c.put.new.self (table_without c.args.id d.table ++ rows (Some k) (with_first_weight (weight_or_one c.args.written) n)) =
    subst (λ w. Stands c.put.new.self (table_without c.args.id d.table ++ rows (Some k) (with_first_weight w n))) c.device_weight-weight.ensures (c.put.ensures.puts.stands d.table (c.reserve.ensures.stands d.table at.stands)) in
    put_is_draft b c.args.id k n took c.put.new.self c.args.written d at st c.adjustment-adjustment.result (c.adjustment-adjustment.ensures d i (took.there d at))
