-- The plan of a run: which plan it is, in which form it is printed, and in which case the run ends because differences remain after the plan.
use Rattle.std.specs.Prelude.{◌≡◌, ◌≢◌, ℕ, List, [], Bool, true, Result, Ok, Err, if◌then◌else◌, length}
use Rattle.crush_model.specs.Forest.{rows_of}
use Rattle.crush_model.specs.Table.{Row}
use Rattle.crush_edits.specs.Setting.{SettingData}
use Rattle.crush_since.specs.Since.{plain_map}
use Rattle.crush_plan.specs.Plan.{IsPlan, PlanData}
use Rattle.crush_plan.specs.PlanText.{ceph_plan_text, plan_text}
use Rattle.crush_input.specs.declared.output.Output.{Output}
use Rattle.crush_input.specs.declared.output.Output.TheVariants as output
use Rattle.crush_input.specs.Options.{name_text}
use Rattle.crush_input.specs.declared.fault.RunFault.{RunFault}
use Rattle.crush_input.specs.declared.fault.RunFault.TheVariants as run

-- the text of a plan that starts from the map with this setting and this table: Ceph's own commands, or lines of a script
abbrev pub text_of_plan : Bool → SettingData → List Row → PlanData → List ℕ
text_of_plan as_ceph s t plan = if as_ceph then ceph_plan_text s t plan else plan_text plan

-- PLANNED: if a plan is selected, then `plan` is a plan from the map with this setting and this table to the wanted map. If no plan is selected,
-- then `plan` leaves no differences.
abbrev pub IsPlanned : Output → SettingData → List Row → PlanData → Type 0
IsPlanned (output.To target) s t plan = IsPlan (name_text target.under) (plain_map s t) (plain_map target.map.setting (rows_of target.map.forest)) plan
IsPlanned what s t plan = plan.rest ≡ []

-- WHOLE: the result of a run agrees with `rest`, the lines of the differences that remain after the run's plan. If a strict run succeeds or fails to write, then no differences remain. If a run ends with Differs n, then it is strict, differences remain, and n is their number. The definition says nothing about any other end.
abbrev pub IsWhole : {X : Type 0} → Bool → List (List ℕ) → Result X RunFault → Type 0
IsWhole strict rest (Ok x) = strict ≡ true → rest ≡ []
IsWhole strict rest (Err run.Write) = strict ≡ true → rest ≡ []
IsWhole strict rest (Err (run.Differs n)) = (strict ≡ true) × (n ≡ length rest) × (rest ≢ [])
IsWhole strict rest (Err fault) = Unit {0}

-- the fault with which the check for remaining differences may fail. It is Differs, and only a strict run can have it
abbrev pub IsDiffersFault : Bool → RunFault → Type 0
IsDiffersFault strict (run.Differs n) = strict ≡ true
IsDiffersFault strict fault = ⊥
