-- The history lines of refused entries, each with its reason.
use Rattle.std.specs.Prelude.{◌≡◌, ℕ, ◌+◌, Bool, List, [], ◌∷◌, ◌++◌, codes, decimal, drop, if◌then◌else◌, nat_lt, slice_index_or, take}
use Rattle.crush_model.specs.Stands.{Stands}
use Rattle.crush_model.specs.Table.{Row}
use Rattle.crush_map.specs.MapData.{MapData}
use Rattle.crush_edits.specs.declared.edit.Edit.{Edit}
use Rattle.crush_edits.specs.declared.refusal.Refusal.{Refusal}
use Rattle.crush_edits.specs.Setting.{SettingData}
use Rattle.crush_history.specs.declared.call.Call.{Call}
use Rattle.crush_history.specs.declared.call.Call.TheVariants.{One, Batch, Guarded}
use Rattle.crush_history.specs.declared.call.Reply.{Reply}
use Rattle.crush_history.specs.declared.call.Reply.TheVariants.{Refused, BatchRefused, Stale}
use Rattle.crush_history.specs.History.{EntryData}
use Rattle.crush_edits.specs.EditText.{edit_text}
use Rattle.crush_history.specs.HistoryText.{entry_text}
use Rattle.crush_history.specs.Refused.{is_refused}
use Rattle.crush_reasons.specs.EditsLeft.{HeadData, entry_head, head_in}
use Rattle.crush_reasons.specs.Named.{edit_reason}
use Rattle.crush_reasons.specs.Place.{OriginData}
use Rattle.crush_reasons.specs.Replay.{history_edits, table_after_edits, table_after_entry}
use Rattle.crush_reasons.specs.Shown.{reason_line}
use Rattle.crush_edits.specs.Refusal.{refusal_sentence}
use Rattle.crush_reasons.specs.Sentences.{reply_sentence, stale_sentence}

-- the reason for a refused edit of a batch, without the edit's place: the edit's command, and the reason that the edit would have outside of a batch
abbrev pub refused_reason : Bool → SettingData → List Row → Edit → Refusal → List ℕ
refused_reason looks s t e r = edit_text e ++ codes ": " ++ edit_reason looks s t e r

abbrev pub first_reason : SettingData → List Row → HeadData → List Edit → Refusal → List ℕ
first_reason s t head [] r = refusal_sentence r
first_reason s t head (e ∷ es) r = head.place ++ refused_reason head.looks s t e r

-- the reason for a batch in which the edit with this index was refused. The reason depends on the table after those edits of the batch that come before the refused one
abbrev pub batched_reason : SettingData → List Row → HeadData → List Edit → ℕ → Refusal → List ℕ
batched_reason s t head es index r = first_reason s (table_after_edits s t (take index es)) head (drop index es) r

-- the reason for a refused guarded batch. Such a batch begins with `begin at N`, and is refused if the number of earlier calls that changed the map isn't N. If N is greater than this number, the reason has both numbers. Otherwise, the reason says what to do next
unfoldable pub so_far : ℕ → List ℕ
so_far count = codes " changes of this run were expected, but there have been " ++ decimal count

abbrev pub too_high : ℕ → ℕ → List ℕ
too_high seen count = decimal seen ++ so_far count

abbrev pub stale_reason : ℕ → ℕ → List ℕ
stale_reason seen count = if nat_lt count seen then too_high seen count else stale_sentence

-- REASON for a refused call. Just before the call, the map had this setting and this table. `head` has the place of the refused edit, and says whether the map is searched for similar names
abbrev pub call_reason : SettingData → List Row → HeadData → Call → Reply → List ℕ
call_reason s t head (One e) (Refused r) = edit_reason head.looks s t e r
call_reason s t head (Batch es) (BatchRefused index r) = batched_reason s t head es index r
call_reason s t head (Guarded seen es) (BatchRefused index r) = batched_reason s t head es index r
call_reason s t head (Guarded seen es) (Stale count) = stale_reason seen count
call_reason s t head call reply = reply_sentence reply

-- the history line of a refused entry, and the reason on the next line; nothing for an entry that wasn't refused
abbrev pub explained_line : SettingData → List Row → ℕ → List ℕ → HeadData → EntryData → List ℕ
explained_line s t number operator head e =
    if is_refused e.reply then entry_text number operator e ++ reason_line (call_reason s t head e.call e.reply) else []

-- the lines of all refused entries of a list, with their reasons. Before these entries, the map had this setting and this table, and the reason for each entry depends on the table just before this entry. `number` is the number of the first entry in the history, `names` has the names of all operators, and `before` has the entries of the history that come before the list
unfoldable pub explained_behind : (ℕ → ℕ → List ℕ) → SettingData → List Row → List (List ℕ) → ℕ → List EntryData → List EntryData → List ℕ
explained_behind head s t names number before [] = []
explained_behind head s t names number before (e ∷ h) =
    explained_line s t number (slice_index_or names e.operator []) (entry_head head before e) e
    ++ explained_behind head s (table_after_entry s t e) names (number + 1) (before ++ e ∷ []) h

-- EXPLAINED JOB: these lines for the whole history of a job. `origin` gives the file of each line, and `lines` has the lines of each operator's edits
abbrev pub explained_job : (ℕ → OriginData) → List (List ℕ) → SettingData → List Row → List (List ℕ) → List EntryData → List ℕ
explained_job origin lines s t names h = explained_behind (head_in origin lines) s t names 1 [] h

-- no edit has a place, because the text of the job isn't known
abbrev pub no_head : ℕ → ℕ → List ℕ
no_head operator k = []

-- EXPLAINED TEXT: the lines for a history if the text of its job isn't known
abbrev pub explained_text : SettingData → List Row → List (List ℕ) → ℕ → List EntryData → List ℕ
explained_text s t names number h = explained_behind no_head s t names number [] h

-- EXPLAINED: the entries of a history were applied to the map `old`, and the map `new` represents the table after them. The lines of the refused entries, with their reasons, were appended to the text `before`, and the result is the text `behind`
pub record AreExplained (head : ℕ → ℕ → List ℕ) (names : List (List ℕ)) (old new : MapData) (before behind : List ℕ) (h : List EntryData) : Type 0 where
  pub setting : new.setting ≡ old.setting
  pub stands : (t : List Row) → Stands old.forest t → Stands new.forest (table_after_edits old.setting t (history_edits h))
  pub lines : (t : List Row) → Stands old.forest t → behind ≡ before ++ explained_behind head old.setting t names 1 [] h
