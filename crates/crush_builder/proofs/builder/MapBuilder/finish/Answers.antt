use Rattle.std.proofs.Common.{ap, sym, subst, ◌∙◌}
use Rattle.crush_model.specs.Forest.{ForestData, rows_of}
use Rattle.crush_model.specs.Stands.{Stands}
use Rattle.crush_edits.specs.Fits.{Fits}
use Rattle.crush_tree.specs.Shrunk.{IsShrunk}
use Rattle.crush_builder.specs.Building.{BuilderData}
use Rattle.crush_builder.proofs.builder.MapBuilder.finish.Goals as goal

pub new-requires : goal.new-requires
new-requires g c = record { fits = subst (λ (f : ForestData). Fits c.self.inside.setting (rows_of f)) (sym c.shrink.ensures.shrunk.same) c.self.invariant.fits }

pub returns-clause-stands : goal.returns-clause-stands
returns-clause-stands g c = λ d i. record {
  setting = c.new.ensures.setting ∙ ap (λ (x : BuilderData). x.setting) c.self.view_is ∙ i.setting;
  forest = subst (λ (f : ForestData). Stands f d.table) (sym c.new.ensures.forest) (c.shrink.ensures.stands d.table (subst (λ (f : ForestData). Stands f d.table) (sym (ap (λ (x : BuilderData). x.forest) c.self.view_is)) i.stands));
}

pub returns-clause-shrunk : goal.returns-clause-shrunk
returns-clause-shrunk g c =
    subst (IsShrunk c.args.self.forest) (sym c.new.ensures.forest)
    (subst (λ (f : ForestData). IsShrunk f c.shrink.new.self) (ap (λ (x : BuilderData). x.forest) c.self.view_is) c.shrink.ensures.shrunk)
