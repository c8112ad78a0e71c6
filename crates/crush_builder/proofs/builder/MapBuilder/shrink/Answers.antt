use Rattle.std.proofs.Common.{◌≤◌, ap, sym, subst, ◌∙◌}
use Rattle.crush_model.specs.Forest.{ForestData, rows_of}
use Rattle.crush_model.specs.Stands.{Stands}
use Rattle.crush_edits.specs.Fits.{Fits}
use Rattle.crush_builder.specs.Building.{BuilderData, IsPending, held_buckets}
use Rattle.crush_builder.specs.Pending.{pending_data}
use Rattle.crush_builder.proofs.builder.MapBuilder.shrink.Goals as goal

pub invariant_of-self : goal.invariant_of-self
invariant_of-self g c =
    let i = c.self.inside in
    let same = sym c.shrink.ensures.shrunk.same in
    record {
      fits = subst (λ (f : ForestData). Fits i.setting (rows_of f)) same c.self.invariant.fits;
      part = subst (λ (f : ForestData). IsPending i.setting (rows_of f) (pending_data i.pending)) same c.self.invariant.part;
      few = subst (λ (f : ForestData). i.adjusted ≤ held_buckets (rows_of f)) same c.self.invariant.few;
    }

pub returns : goal.returns
returns g c = λ d i. record {
  setting = ap (λ (x : BuilderData). x.setting) c.self.view_is ∙ i.setting;
  pending = ap (λ (x : BuilderData). x.pending) c.self.view_is ∙ i.pending;
  adjusted = ap (λ (x : BuilderData). x.adjusted) c.self.view_is ∙ i.adjusted;
  few = i.few;
  stands = c.shrink.ensures.stands d.table (subst (λ (f : ForestData). Stands f d.table) (sym (ap (λ (x : BuilderData). x.forest) c.self.view_is)) i.stands);
  fits = i.fits;
  part = i.part;
}
