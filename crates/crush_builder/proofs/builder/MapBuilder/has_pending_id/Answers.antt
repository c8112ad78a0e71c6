use Rattle.std.proofs.Common.{ap, sym, ◌∙◌}
use Rattle.std.specs.Prelude.{map, ◌||◌}
use Rattle.crush_model.specs.Items.{ShadowData}
use Rattle.crush_model.specs.Table.{member}
use Rattle.crush_nodes.specs.Seen.{shadow_data}
use Rattle.crush_builder.specs.Pending.{pending_data, listed}
use Rattle.crush_builder.specs.Built.{Pending}
use Rattle.crush_builder.specs.Building.{BuilderData, pending_class_ids, has_pending_id}
use Rattle.crush_builder.proofs.RowSteps.{id_seen}
use Rattle.crush_builder.proofs.builder.MapBuilder.has_pending_id.Goals as goal

pub returns-else-eq : goal.returns-else-eq
returns-else-eq g c =
    let p = sym (ap (λ (b : BuilderData). b.pending) c.self.view_is) ∙ ap pending_data c.in-Numbered.is in
    c.numbers_class_id.ensures ∙ id_seen shadow_data c.args.id c.class_ids.result.now
    ∙ ap (λ cs. member c.args.id (map (λ (x : ShadowData). x.id) cs)) (c.class_ids.ensures ∙ ap pending_class_ids p)
    ∙ ap (λ b. b || member c.args.id (map (λ (x : ShadowData). x.id) (listed c.in-Numbered.field-3))) c.if-eq.ensures
    ∙ sym (ap (λ (q : Pending). has_pending_id q c.args.id) p)
