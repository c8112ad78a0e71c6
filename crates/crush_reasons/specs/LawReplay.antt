-- The law about the edits of those calls of a history that changed the map.
use Rattle.std.specs.Prelude.{◌≡◌, List}
use Rattle.crush_model.specs.Table.{Row}
use Rattle.crush_edits.specs.Setting.{SettingData}
use Rattle.crush_history.specs.History.{EntryData, IsLegal, table_after}
use Rattle.crush_reasons.specs.Replay.{history_edits, table_after_edits}

-- If the history is legal, which means that each reply is the right one for its call, then the edits of those calls that changed the map lead from the table before the first call to the table after the last call. The law also holds for each beginning of the history, because the beginning is legal, too. So the edits of a beginning lead to the table just before the next call
abbrev pub LeadsToTableAfter : Type 0
LeadsToTableAfter = (s : SettingData) (t : List Row) (h : List EntryData) → IsLegal s t h → table_after_edits s t (history_edits h) ≡ table_after s t h
