-- The laws of runs. If a table is lawful and the setting fits it (`Keeps`), then both are still true after a call, after a history, and after scripts that run one after the other. (The edits must have the form that `IsCall` requires.) The table stays the same as long as no reply reports a change.
use Rattle.std.specs.Prelude.{◌≡◌, ℕ, ◌++◌, List, All, false}
use Rattle.crush_model.specs.Table.{Row}
use Rattle.crush_edits.specs.Setting.{SettingData}
use Rattle.crush_edits.specs.LawEdit.{IsEdit, Keeps}
use Rattle.crush_history.specs.declared.call.Call.{Call}
use Rattle.crush_history.specs.declared.call.Call.TheVariants.{One, Batch, Guarded}
use Rattle.crush_history.specs.Script.{ScriptData}
use Rattle.crush_history.specs.History.{EntryData, call_outcome, is_change, changes, table_after, IsLegal, turns}

-- each edit of the call has the form that `IsEdit` requires; the types of the code guarantee this
abbrev pub IsCall : Call → Type 0
IsCall (One e) = IsEdit e
IsCall (Batch es) = All IsEdit es
IsCall (Guarded seen es) = All IsEdit es

-- A CALL: if a table is lawful and the setting fits it, then the table after a call is lawful and the setting fits it, whatever the reply is. The call must satisfy `IsCall`
abbrev pub CallKeeps : Type 0
CallKeeps = (s : SettingData) (t : List Row) (n : ℕ) (c : Call) → Keeps s t → IsCall c → Keeps s (call_outcome s t n c).table

-- A HISTORY: if a table is lawful and the setting fits it, then the table after a history is lawful and the setting fits it. The history needn't be legal, but each of its calls must satisfy `IsCall`
abbrev pub HistoryKeeps : Type 0
HistoryKeeps = (s : SettingData) (t : List Row) (h : List EntryData) → Keeps s t → All (λ (e : EntryData). IsCall e.call) h → Keeps s (table_after s t h)

-- SCRIPTS: if a table is lawful and the setting fits it, then the table after scripts that run one after the other is lawful and the setting fits it. Each call of the scripts must satisfy `IsCall`
abbrev pub TurnsKeep : Type 0
TurnsKeep = (s : SettingData) (t : List Row) (scripts : List ScriptData) → Keeps s t → All (λ (x : ScriptData). All IsCall x.calls) scripts → Keeps s (table_after s t (turns s t scripts))

-- NO CHANGE: a call whose reply says that nothing changed leaves the table as it is
abbrev pub NoChangeKeeps : Type 0
NoChangeKeeps = (s : SettingData) (t : List Row) (n : ℕ) (c : Call) → is_change (call_outcome s t n c).reply ≡ false → (call_outcome s t n c).table ≡ t

-- SAME COUNT, SAME TABLE: if the history h followed by g is legal, and no reply in g reports a change, then the table after h and g is the table after h
abbrev pub SameCountSameTable : Type 0
SameCountSameTable = (s : SettingData) (t : List Row) (h g : List EntryData) → IsLegal s t (h ++ g) → changes (h ++ g) ≡ changes h → table_after s t (h ++ g) ≡ table_after s t h
