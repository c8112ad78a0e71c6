-- The laws that the text of a plan is a script with the plan's edits, and that the run of this script makes these edits.
use Rattle.std.specs.Prelude.{◌≡◌, ℕ, ◌≤◌, List, [], ◌∷◌, ◌++◌, All, Option, true, codes, length, map}
use Rattle.crush_units.specs.Name.{IsName}
use Rattle.crush_units.specs.declared.limits.TheConstants.{LONGEST_JOB, MOST_CALLS}
use Rattle.crush_model.specs.Table.{Row}
use Rattle.crush_edits.specs.Setting.{SettingData}
use Rattle.crush_edits.specs.declared.edit.Edit.{Edit}
use Rattle.crush_text.specs.Document.{IsMapText}
use Rattle.crush_history.specs.declared.call.Call.TheVariants.{One}
use Rattle.crush_history.specs.History.{EntryData, is_change, table_after, turns}
use Rattle.crush_history.specs.Script.{ScriptData}
use Rattle.crush_script.specs.Job.{IsJob}
use Rattle.crush_script.specs.ScriptsText.{ends_line}
use Rattle.crush_since.specs.Since.{PlainMap}
use Rattle.crush_plan.specs.Leads.{Leads}
use Rattle.crush_plan.specs.Part.{IsAllowed}
use Rattle.crush_plan.specs.Plan.{IsPlan, PlanData}
use Rattle.crush_plan.specs.PlanText.{plan_text}

-- the script of the operator with this name, with one call for each edit
abbrev pub script_of : List ℕ → List Edit → ScriptData
script_of name es = record { name = name; calls = map One es }

-- the text of a map, followed by a section: the line `%operator` with the operator's name, and then the text of a plan
abbrev pub planned_job : List ℕ → List ℕ → PlanData → List ℕ
planned_job text name plan = text ++ (codes "%operator " ++ name ++ codes "\n" ++ plan_text plan)

-- PLANS ARE SCRIPTS: take the text of a map, and any plan from this map toward another map. The last line of the text must end with a line feed. The plan may be for the whole map or for a part of it (`under`). The text of the map, followed by the plan as a section, is a job of that map, if it has at most as many calls and bytes as a job may have. This job has one call for each edit of the plan, and no other call. The lines of a plan about the differences that remain are comments, and add no call to the job.
abbrev pub PlansAreScripts : Type 0
PlansAreScripts = (under : Option (List ℕ)) (old new : PlainMap) (text : List ℕ) (adjusted : ℕ) (name : List ℕ) (plan : PlanData) → IsMapText text old.setting old.table adjusted → ends_line true text ≡ true
    → IsName name → IsPlan under old new plan → length plan.edits ≤ MOST_CALLS → length (planned_job text name plan) ≤ LONGEST_JOB
    → IsJob (planned_job text name plan) (record { setting = old.setting; table = old.table; adjusted = adjusted; scripts = script_of name plan.edits ∷ [] })

-- the history h leads from the table t to the table u, and each entry of h has changed the map
pub record IsRun (u : List Row) (s : SettingData) (t : List Row) (h : List EntryData) : Type 0 where
  pub table : table_after s t h ≡ u
  pub changes : All (λ (e : EntryData). is_change e.reply ≡ true) h

-- PLANS ARE RUN: suppose that edits that a plan may have lead from the table t to the table u, so that each edit succeeds and changes the map. Then the run of the script with one call for each edit also leads from t to u, and each of its calls changes the map
abbrev pub PlansAreRun : Type 0
PlansAreRun = (old new : List Row) (under : Option (List ℕ)) (s : SettingData) (t : List Row) (name : List ℕ) (es : List Edit) (u : List Row) → Leads (IsAllowed old new under) s t es u → IsRun u s t (turns s t (script_of name es ∷ []))
