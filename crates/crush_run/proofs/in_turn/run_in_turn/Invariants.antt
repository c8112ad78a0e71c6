use Rattle.std.proofs.Common.{◌≡◌, ◌+◌, List, drop, take, length}
use Rattle.std.specs.Vec.Iter.{into_iter_items, into_iter_len}
use Rattle.crush_model.specs.Table.{Row}
use Rattle.crush_edits.specs.Setting.{SettingData}
use Rattle.crush_map.specs.MapData.{MapStands}
use Rattle.crush_history.specs.Script.{scripts_data}
use Rattle.crush_history.specs.History.{table_after, turns}
use Rattle.crush_history.specs.Entries.{AreOf}
use Rattle.crush_run.proofs.in_turn.run_in_turn.Given as goal

abbrev pub invariant-loop-script : goal.invariant-loop-script
invariant-loop-script g l = record {
  table : l.book.table ≡ l.run.gauge.now.table.shared.table_id;
  rest : into_iter_items l.script-iterator ≡ drop l.operator l.fn.scripts.items;
  left : into_iter_len l.script-iterator + l.operator ≡ length l.fn.scripts.items;
  operators : AreOf (length l.fn.scripts.items) l.book.history;
  entries : (s : SettingData) (t : List Row) → MapStands l.fn.map s t →
      (l.book.history ≡ turns s t (scripts_data (take l.operator l.fn.scripts.items))) × MapStands l.book.map s (table_after s t (turns s t (scripts_data (take l.operator l.fn.scripts.items))));
}
