-- The edits of those calls of a history that changed the map, as Ceph's own commands.
use Rattle.std.specs.Prelude.{ℕ, List}
use Rattle.crush_model.specs.Table.{Row}
use Rattle.crush_history.specs.History.{EntryData}
use Rattle.crush_edits.specs.Setting.{SettingData}
use Rattle.crush_ceph.specs.CephText.{ceph_text as ceph_text_of_edits}
use Rattle.crush_reasons.specs.Replay.{history_edits}

-- CEPH TEXT of a history: the text for all edits of those calls that changed the map. Before the first call, the map had this setting and this table
unfoldable pub ceph_text : SettingData → List Row → List EntryData → List ℕ
ceph_text s t h = ceph_text_of_edits s t (history_edits h)
