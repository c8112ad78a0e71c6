-- The edits of those calls of a history that changed the map, and the table after these edits are applied once more.
use Rattle.std.specs.Prelude.{List, [], ◌∷◌, if◌then◌else◌, flat_map}
use Rattle.crush_model.specs.Table.{Row}
use Rattle.crush_edits.specs.declared.edit.Edit.{Edit}
use Rattle.crush_edits.specs.Setting.{SettingData}
use Rattle.crush_history.specs.declared.call.Call.{Call}
use Rattle.crush_history.specs.declared.call.Call.TheVariants.{One, Batch, Guarded}
use Rattle.crush_history.specs.History.{EntryData, is_change}
use Rattle.crush_ceph.specs.ForCeph.{table_after_edit}

-- the edits of a call, in order
abbrev pub edits_of : Call → List Edit
edits_of (One e) = e ∷ []
edits_of (Batch es) = es
edits_of (Guarded seen es) = es

-- the edits of an entry, if its call changed the map; otherwise none. If the call is a batch, these are all edits of the batch, also those that changed nothing
abbrev pub changing_edits : EntryData → List Edit
changing_edits e = if is_change e.reply then edits_of e.call else []

-- the edits of all calls of a history that changed the map, in their order
abbrev pub history_edits : List EntryData → List Edit
history_edits h = flat_map changing_edits h

-- the table after edits that are applied one after the other; a refused edit changes nothing
unfoldable pub table_after_edits : SettingData → List Row → List Edit → List Row
table_after_edits s t [] = t
table_after_edits s t (e ∷ es) = table_after_edits s (table_after_edit s t e) es

-- the table after the edits of an entry, if its call changed the map; otherwise the table is unchanged
abbrev pub table_after_entry : SettingData → List Row → EntryData → List Row
table_after_entry s t e = table_after_edits s t (changing_edits e)
