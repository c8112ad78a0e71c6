use Rattle.std.proofs.Common.{ap, sym, subst, ◌∙◌}
use Rattle.std.specs.Prelude.{Some}
use Rattle.crush_units.specs.declared.id.ItemId.TheVariants.{Device, Bucket}
use Rattle.crush_builder.specs.Pending.{pending_data}
use Rattle.crush_builder.specs.Building.{BuilderData, IsDraft}
use Rattle.crush_apply.proofs.Found.{there_by_name}
use Rattle.crush_builder.proofs.builder.MapBuilder.closed_item.Goals as goal

pub returns-in-Device-clause-there : goal.returns-in-Device-clause-there
returns-in-Device-clause-there g c = λ d i.
    let b : BuilderData = record { setting = c.self.inside.setting; forest = c.self.inside.hierarchy; pending = pending_data c.self.inside.pending; adjusted = c.self.inside.adjusted } in
    let at : IsDraft b d = subst (λ (x : BuilderData). IsDraft x d) (sym c.self.view_is) i in
    there_by_name d.table c.args.name.now (Device c.in-Device.device) (sym (c.id_of_bytes.ensures d.table at.stands) ∙ c.in_ok-device.was ∙ ap Some c.in-Device.is)

pub returns-else-fills-clause-there : goal.returns-else-fills-clause-there
returns-else-fills-clause-there g c = λ d i.
    let b : BuilderData = record { setting = c.self.inside.setting; forest = c.self.inside.hierarchy; pending = pending_data c.self.inside.pending; adjusted = c.self.inside.adjusted } in
    let at : IsDraft b d = subst (λ (x : BuilderData). IsDraft x d) (sym c.self.view_is) i in
    there_by_name d.table c.args.name.now (Bucket c.in-Bucket.bucket) (sym (c.id_of_bytes.ensures d.table at.stands) ∙ c.in_ok-device.was ∙ ap Some c.in-Bucket.is)
