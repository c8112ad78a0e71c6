-- How a call changes a map, and what a history of given scripts is.
use Rattle.std.specs.Prelude.{◌≡◌, ℕ, zero, suc, List, [], ◌∷◌, length, map}
use Rattle.crush_model.specs.Table.{Row}
use Rattle.crush_edits.specs.Setting.{SettingData}
use Rattle.crush_map.specs.MapData.{MapData, MapStands}
use Rattle.crush_history.specs.declared.call.Call.{Call}
use Rattle.crush_history.specs.declared.call.Reply.{Reply}
use Rattle.crush_history.specs.Script.{ScriptData, call_count}
use Rattle.crush_history.specs.History.{call_outcome, EntryData, AnsweredData, IsLegal, of_operator, turns}

-- MADE: suppose that the map represents the setting s and the table t before the call. Then the reply is the reply that `call_outcome` gives for the table t and the number n of earlier changes, and the map after the call represents s and the table that `call_outcome` gives
abbrev pub Makes : ℕ → MapData → MapData → Call → Reply → Type 0
Makes n old new call reply = (s : SettingData) (t : List Row) → MapStands old s t → (reply ≡ (call_outcome s t n call).reply) × MapStands new s (call_outcome s t n call).table

-- the calls of the script with index k, or none if there is no such script
abbrev pub calls_at : List ScriptData → ℕ → List Call
calls_at [] k = []
calls_at (x ∷ xs) zero = x.calls
calls_at (x ∷ xs) (suc k) = calls_at xs k

-- the calls of answered calls, without their replies
abbrev pub calls_of : List AnsweredData → List Call
calls_of answered = map (λ (a : AnsweredData). a.call) answered

-- h is a history of the given scripts: h is legal, the calls of each operator k in h are the calls of the script with index k in the same order, and h has no other calls
pub record IsHistoryOf (s : SettingData) (t : List Row) (scripts : List ScriptData) (h : List EntryData) : Type 0 where
  pub legal : IsLegal s t h
  pub calls : (k : ℕ) → calls_of (of_operator k h) ≡ calls_at scripts k
  pub length : length h ≡ call_count scripts

-- if scripts run one after the other (`turns`), the result is a history of these scripts
abbrev pub TurnsAreHistory : Type 0
TurnsAreHistory = (s : SettingData) (t : List Row) (scripts : List ScriptData) → IsHistoryOf s t scripts (turns s t scripts)
