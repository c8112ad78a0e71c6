use Rattle.std.proofs.Common.{rules, ◌≡◌, List, ap, sym, subst, ◌∙◌}
use Rattle.std.specs.Prelude.{IfOk}
use Rattle.crush_model.specs.Table.{Row}
use Rattle.crush_model.specs.Forest.{ForestData}
use Rattle.crush_model.specs.Stands.{Stands}
use Rattle.crush_edits.specs.Edit.{edit}
use Rattle.crush_edits.specs.Outcome.{IsDone, IsChange}
use Rattle.crush_map.specs.MapData.{MapData}
use Rattle.crush_map.proofs.map.CrushMap.apply.Goals as goal

-- if two maps are equal, each table that the forest of one map represents is represented by the forest of the other map
of_forest : (m n : MapData) (t : List Row) → m ≡ n → Stands n.forest t → Stands m.forest t
of_forest m n t e st = subst (λ (f : ForestData). Stands f t) (sym (ap (λ (x : MapData). x.forest) e)) st

pub returns-clause-done : goal.returns-clause-done
returns-clause-done g c =
    subst (λ (m : MapData). IfOk c.apply_edit.result (λ d. (t : List Row) → Stands m.forest t → IsDone (Stands c.apply_edit.new.hierarchy) (edit m.setting t c.args.requested.now) d)) c.self.view_is c.apply_edit.ensures.done

pub returns-clause-refused : goal.returns-clause-refused
returns-clause-refused g c = λ r is t st.
    ap (λ (m : MapData). edit m.setting t c.args.requested.now) (sym c.self.view_is) ∙ c.apply_edit.ensures.refused r is t (of_forest _ _ t c.self.view_is st)

pub returns-clause-change : goal.returns-clause-change
returns-clause-change g c = λ is t st.
    subst (λ (m : MapData). IsChange (edit m.setting t c.args.requested.now)) c.self.view_is (c.apply_edit.ensures.change is t (of_forest _ _ t c.self.view_is st))

pub returns-clause-unchanged : goal.returns-clause-unchanged
returns-clause-unchanged g c = search rules
