-- What a plan promises, independent of the search that has found it.
use Rattle.std.specs.Prelude.{◌≡◌, ◌⊎◌, ◌<◌, ℕ, List, [], Option, length}
use Rattle.crush_model.specs.Table.{Row}
use Rattle.crush_edits.specs.declared.edit.Edit.{Edit}
use Rattle.crush_since.specs.Since.{PlainMap, plain_map}
use Rattle.crush_since.specs.declared.names.aside.Counts.{Counts}
use Rattle.crush_plan.specs.declared.plan.Plan.{Plan}
use Rattle.crush_since.specs.Aside.{CountsAsideOf}
use Rattle.crush_plan.specs.Leads.{Leads}
use Rattle.crush_plan.specs.Part.{IsAllowed}
use Rattle.crush_since.specs.Stays.{line_texts, stays_part}

-- a plan as plain data: the edits, the lines of the differences that remain after them, and the counts of buckets whose ids differ
pub record PlanData : Type 0 where
  pub edits : List Edit
  pub rest : List (List ℕ)
  pub aside : Counts

abbrev pub plan_data : Plan → PlanData
plan_data p = record { edits = p.edits.items; rest = line_texts p.rest.items; aside = p.aside }

-- the plan's differences and counts are those between the map `old` and the wanted map `new`, in the selected part
pub record TellsRest (under : Option (List ℕ)) (old new : PlainMap) (plan : PlanData) : Type 0 where
  pub rest : plan.rest ≡ stays_part under old new
  pub aside : CountsAsideOf under old.table new.table plan.aside

-- the edits are allowed, and lead from the old map to a map with the table `table`. The plan's differences and counts are those between this map and the wanted map
pub record GoesTo (under : Option (List ℕ)) (old new : PlainMap) (plan : PlanData) : Type 0 where
  pub table : List Row
  pub leads : Leads (IsAllowed old.table new.table under) old.setting old.table plan.edits table
  pub tells : TellsRest under (plain_map old.setting table) new plan

-- BETTER: fewer differences remain after the plan's edits than there are without any edit. Ids that differ don't count as differences. `none` is the plan without edits
pub record IsBetterThanNone (under : Option (List ℕ)) (old new : PlainMap) (plan : PlanData) : Type 0 where
  pub none : PlanData
  pub edits : none.edits ≡ []
  pub tells : TellsRest under old new none
  pub fewer : length plan.rest < length none.rest

-- PLAN: the edits are allowed, and lead from the old map to a table. The plan's differences and counts are exactly those between this table and the wanted map. Either the plan has no edits, or fewer differences remain than there are without any edit
pub record IsPlan (under : Option (List ℕ)) (old new : PlainMap) (plan : PlanData) : Type 0 where
  pub goes : GoesTo under old new plan
  pub better : (plan.edits ≡ []) ⊎ IsBetterThanNone under old new plan
