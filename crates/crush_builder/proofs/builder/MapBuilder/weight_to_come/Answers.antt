use Rattle.std.proofs.Common.{◌≡◌, ℕ, true, subst, sym, ap, ◌∙◌}
use Rattle.std.specs.Prelude.{Some, if◌then◌else◌}
use Rattle.crush_model.specs.Table.{is_there, is_device_id}
use Rattle.crush_model.specs.Forest.{ForestData, all_items, rows_of}
use Rattle.crush_model.specs.Stored.{weight_sum}
use Rattle.crush_model.proofs.Stands.{stands_for_rows}
use Rattle.crush_nodes.specs.Ops.{part_of}
use Rattle.crush_builder.specs.Pending.{with_first_weight}
use Rattle.crush_builder.specs.Building.{BuilderData}
use Rattle.crush_builder.proofs.ItemTaken.{part_weighs}
use Rattle.crush_builder.proofs.builder.MapBuilder.weight_to_come.Goals as goal

pub unreachable-requires : goal.unreachable-requires
unreachable-requires g c =
    let f : ForestData = c.self.inside.hierarchy in
    let own = c.in-None.ensures (rows_of f) (stands_for_rows f c.recall_invariant.ensures) ∙ c.recall_part.ensures.weight (rows_of f) (stands_for_rows f c.recall_invariant.ensures) in
    cc

pub returns-in-Device : goal.returns-in-Device
returns-in-Device g c =
    let f : ForestData = c.self.inside.hierarchy in
    let there : is_there (rows_of f) c.args.id ≡ true = subst (λ (x : BuilderData). is_there (rows_of x.forest) c.args.id ≡ true) (sym c.self.view_is) c.requires in
    sym (ap (λ (x : BuilderData). weight_sum (with_first_weight c.args.weight (part_of c.args.id (all_items x.forest)))) (sym c.self.view_is)
    ∙ part_weighs f c.args.id c.args.weight c.recall_invariant.ensures there
    ∙ ap (λ j. if is_device_id j then c.args.weight else weight_sum (part_of c.args.id (all_items f))) c.in-Device.is)

some_is : (v w : ℕ) → Some v ≡ Some w → v ≡ w
some_is v w e = cc

pub returns-in-Some : goal.returns-in-Some
returns-in-Some g c =
    let f : ForestData = c.self.inside.hierarchy in
    let there : is_there (rows_of f) c.args.id ≡ true = subst (λ (x : BuilderData). is_there (rows_of x.forest) c.args.id ≡ true) (sym c.self.view_is) c.requires in
    let own = some_is _ _ (sym c.in-Some.is ∙ c.weight.ensures (rows_of f) (stands_for_rows f c.recall_invariant.ensures) ∙ c.recall_part.ensures.weight (rows_of f) (stands_for_rows f c.recall_invariant.ensures)) in
    own ∙ sym (ap (λ (x : BuilderData). weight_sum (with_first_weight c.args.weight (part_of c.args.id (all_items x.forest)))) (sym c.self.view_is)
    ∙ part_weighs f c.args.id c.args.weight c.recall_invariant.ensures there
    ∙ ap (λ j. if is_device_id j then c.args.weight else weight_sum (part_of c.args.id (all_items f))) c.in-Bucket.is)
