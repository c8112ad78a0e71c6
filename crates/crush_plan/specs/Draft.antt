-- What the contracts of the search for a plan promise about a draft: a map that is changed step by step, and the edits that were applied to it.
use Rattle.std.specs.Prelude.{◌≡◌, List, [], ◌++◌, Option}
use Rattle.std.specs.Option.{option_map}
use Rattle.crush_units.specs.declared.id.ItemId.{ItemId}
use Rattle.crush_model.specs.Forest.{ForestData}
use Rattle.crush_model.specs.Stands.{Stands}
use Rattle.crush_model.specs.Table.{Row}
use Rattle.crush_edits.specs.declared.edit.Edit.{Edit}
use Rattle.crush_edits.specs.Setting.{SettingData}
use Rattle.crush_plan.specs.declared.goal.PlanGoal.{PlanGoal}
use Rattle.crush_plan.specs.declared.draft.Draft.{Draft}
use Rattle.crush_plan.specs.Leads.{Leads}
use Rattle.crush_plan.specs.Part.{HasPartBelow, IsAllowed, WeighsPart}

-- the plan may have the edit e, if e is applied to a map with the table v
abbrev pub Allows : {A B : _} → PlanGoal A B → List Row → Edit → Type 0
Allows goal v e = (t u : List Row) → Stands goal.before.now.forest t → Stands goal.wanted.now.forest u → IsAllowed t u (option_map (λ name. name.now) goal.under) v e

-- `MayWeigh`: if the edit e sets all weights below a bucket, then each item below this bucket is one that the plan may change (`WeighsPart`). `MayWeighBelow`: each item below the item i is one that the plan may change (`HasPartBelow`). v is the table of the map to which the edit is applied
abbrev pub MayWeigh : {A B : _} → PlanGoal A B → List Row → Edit → Type 0
MayWeigh goal v e = (t u : List Row) → Stands goal.before.now.forest t → Stands goal.wanted.now.forest u → WeighsPart t u (option_map (λ name. name.now) goal.under) v e

abbrev pub MayWeighBelow : {A B : _} → PlanGoal A B → List Row → Option ItemId → Type 0
MayWeighBelow goal v i = (t u : List Row) → Stands goal.before.now.forest t → Stands goal.wanted.now.forest u → HasPartBelow t u (option_map (λ name. name.now) goal.under) v i

-- the edits lead from the table t to a table that the forest f represents
abbrev pub LeadsTo : {A B : _} → PlanGoal A B → SettingData → List Row → List Edit → ForestData → Type 0
LeadsTo goal s t es f = (u : List Row) × Leads (Allows goal) s t es u × Stands f u

-- the new draft continues the old draft: it has the edits of the old draft, and then further edits. These further edits lead from the old draft's map to the new draft's map
pub record GoesOn {A B : _} (goal : PlanGoal A B) (old new : Draft A) : Type 0 where
  pub setting : new.map.setting ≡ old.map.setting
  pub more : List Edit
  pub edits : new.edits.items ≡ old.edits.items ++ more
  pub leads : (t : List Row) → Stands old.map.forest t → LeadsTo goal old.map.setting t more new.map.forest

-- the draft `fork` has no edits, and its map represents each table that the map of the draft d represents
pub record IsFork {A : _} (d fork : Draft A) : Type 0 where
  pub setting : fork.map.setting ≡ d.map.setting
  pub none : fork.edits.items ≡ []
  pub stands : (t : List Row) → Stands d.map.forest t → Stands fork.map.forest t

-- the edits of the draft `next` lead from the map of the draft d to the map of `next`
pub record IsContinued {A B : _} (goal : PlanGoal A B) (d next : Draft A) : Type 0 where
  pub setting : next.map.setting ≡ d.map.setting
  pub leads : (t : List Row) → Stands d.map.forest t → LeadsTo goal d.map.setting t next.edits.items next.map.forest

-- the edits of the draft d lead from the map before the plan to the map of d
pub record IsDraftOf {A B : _} (goal : PlanGoal A B) (d : Draft A) : Type 0 where
  pub setting : d.map.setting ≡ goal.before.now.setting
  pub leads : (t : List Row) → Stands goal.before.now.forest t → LeadsTo goal goal.before.now.setting t d.edits.items d.map.forest
