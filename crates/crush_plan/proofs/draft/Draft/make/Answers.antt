use Rattle.std.proofs.Common.{ap, refl, sym, subst, ◌∙◌}
use Rattle.std.proofs.lemmas.Result.{on_ok_weaker}
use Rattle.crush_model.specs.Stands.{Stands}
use Rattle.crush_map.specs.MapData.{MapData}
use Rattle.crush_plan.proofs.Going.{gave, with_map}
use Rattle.crush_plan.proofs.draft.Draft.make.Goals as goal

pub returns-in-Ok : goal.returns-in-Ok
returns-in-Ok g c =
    on_ok_weaker c.keep.result
    (λ is. gave c.args.self.now c.keep.new.self c.args.edit c.in-Ok.done.changed c.in-Ok.done.made
    c.requires.allowed
    (ap (λ (m : MapData). m.setting) c.keep.ensures.map ∙ c.in-Ok.ensures.setting)
    is
    (λ t st. let d = c.in-Ok.ensures.done t st in (d.0, d.1, subst (λ (m : MapData). Stands m.forest d.0) (sym c.keep.ensures.map) d.2))
    (λ no. c.keep.ensures.map ∙ c.in-Ok.ensures.still no))
    c.keep.ensures.edits

pub returns-in-Err-Refused : goal.returns-in-Err-Refused
returns-in-Err-Refused g c = with_map c.args.self.now _ c.in-Err-Refused.ensures.unchanged refl
