use Rattle.std.proofs.Common.{◌≡◌, List, ap, sym, subst, ◌∙◌}
use Rattle.std.specs.Prelude.{IfOk, OnErr}
use Rattle.crush_model.specs.Table.{Row}
use Rattle.crush_model.specs.Forest.{ForestData}
use Rattle.crush_model.specs.Stands.{Stands}
use Rattle.crush_edits.specs.Batch.{batch}
use Rattle.crush_apply.specs.AsBefore.{IsAsBefore}
use Rattle.crush_apply.specs.Batched.{IsBatchDone}
use Rattle.crush_map.specs.MapData.{MapData}
use Rattle.crush_map.proofs.map.CrushMap.apply_batch.Goals as goal

-- if two maps are equal, each table that the forest of one map represents is represented by the forest of the other map
of_forest : (m n : MapData) (t : List Row) → m ≡ n → Stands n.forest t → Stands m.forest t
of_forest m n t e st = subst (λ (f : ForestData). Stands f t) (sym (ap (λ (x : MapData). x.forest) e)) st

pub returns-clause-done : goal.returns-clause-done
returns-clause-done g c =
    subst (λ (m : MapData). IfOk c.apply_batch.result (λ d. (t : List Row) → Stands m.forest t → IsBatchDone (Stands c.apply_batch.new.hierarchy) (batch m.setting t c.args.edits.now) d)) c.self.view_is c.apply_batch.ensures.done

pub returns-clause-refused : goal.returns-clause-refused
returns-clause-refused g c = λ k r is t st.
    ap (λ (m : MapData). batch m.setting t c.args.edits.now) (sym c.self.view_is) ∙ c.apply_batch.ensures.refused k r is t (of_forest _ _ t c.self.view_is st)

pub returns-clause-as_before : goal.returns-clause-as_before
returns-clause-as_before g c =
    subst (λ (m : MapData). OnErr c.apply_batch.result (IsAsBefore m.forest c.apply_batch.new.hierarchy)) c.self.view_is c.apply_batch.ensures.as_before
