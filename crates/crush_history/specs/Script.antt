-- The values that contracts use for the scripts of operators.
use Rattle.std.specs.Prelude.{ℕ, List, length, map}
use Rattle.std.specs.List.{sum_by}
use Rattle.crush_history.specs.declared.call.Call.{Call}
use Rattle.crush_history.specs.declared.script.Script.{Script}

-- the script of one operator: the operator's name, and the operator's calls in order
pub record ScriptData : Type 0 where
  pub name : List ℕ
  pub calls : List Call

-- the value that contracts use for a script of the code
abbrev pub script_data : Script → ScriptData
script_data s = record { name = s.name; calls = s.calls.items }

-- the values that contracts use for several scripts of the code, in the same order
abbrev pub scripts_data : List Script → List ScriptData
scripts_data scripts = map script_data scripts

-- how many calls the scripts have together
abbrev pub call_count : List ScriptData → ℕ
call_count scripts = sum_by (λ (s : ScriptData). length s.calls) scripts
