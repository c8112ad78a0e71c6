-- For each output there is a plan.
use Rattle.std.proofs.Common.{ℕ, List, [], Option, refl, inl}
use Rattle.std.specs.List.{count_by}
use Rattle.crush_model.specs.Forest.{rows_of}
use Rattle.crush_model.specs.Table.{Row}
use Rattle.crush_edits.specs.Setting.{SettingData}
use Rattle.crush_since.specs.Since.{PlainMap, plain_map}
use Rattle.crush_print.specs.Tree.{tree_rows}
use Rattle.crush_since.specs.Aside.{is_aside, other_class_ids, other_id}
use Rattle.crush_plan.specs.Plan.{IsPlan, PlanData}
use Rattle.crush_since.specs.Stays.{stays_part}
use Rattle.crush_input.specs.declared.output.Output.{Output}
use Rattle.crush_input.specs.declared.output.Output.TheVariants as output
use Rattle.crush_input.specs.Options.{name_text}
use Rattle.crush_run.specs.Planned.{IsPlanned}

-- the plan without edits, after which all differences remain
without : Option (List ℕ) → PlainMap → PlainMap → PlanData
without under old new = record {
  edits = [];
  rest = stays_part under old new;
  aside = record { ids = count_by (is_aside other_id under old.table new.table) (tree_rows new.table); class_ids = count_by (is_aside other_class_ids under old.table new.table) (tree_rows new.table) };
}

without_is_plan : (under : Option (List ℕ)) (old new : PlainMap) → IsPlan under old new (without under old new)
unfolding without
without_is_plan under old new = record {
  goes = record { table = old.table; leads = refl; tells = record { rest = refl; aside = record { ids = refl; class_ids = refl } } };
  better = inl refl;
}

-- so there is a plan for each output
pub some_plan : Output → SettingData → List Row → PlanData
some_plan output.Map s t = record { edits = []; rest = []; aside = record { ids = 0; class_ids = 0 } }
some_plan (output.Tree part) s t = record { edits = []; rest = []; aside = record { ids = 0; class_ids = 0 } }
some_plan (output.Since old) s t = record { edits = []; rest = []; aside = record { ids = 0; class_ids = 0 } }
some_plan (output.Changes old) s t = record { edits = []; rest = []; aside = record { ids = 0; class_ids = 0 } }
some_plan output.AsCeph s t = record { edits = []; rest = []; aside = record { ids = 0; class_ids = 0 } }
some_plan (output.To w) s t = without (name_text w.under) (plain_map s t) (plain_map w.map.setting (rows_of w.map.forest))

pub some_plan_is : (what : Output) (s : SettingData) (t : List Row) → IsPlanned what s t (some_plan what s t)
unfolding some_plan
some_plan_is output.Map s t = refl
some_plan_is (output.Tree part) s t = refl
some_plan_is (output.Since old) s t = refl
some_plan_is (output.Changes old) s t = refl
some_plan_is output.AsCeph s t = refl
some_plan_is (output.To w) s t = without_is_plan (name_text w.under) (plain_map s t) (plain_map w.map.setting (rows_of w.map.forest))
