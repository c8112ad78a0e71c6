use Rattle.std.proofs.Common.{◌≡◌, ◌<◌, ◌+◌, ℕ, List, drop, length, take, ◌++◌}
use Rattle.std.specs.Vec.Iter.{into_iter_items, into_iter_len}
use Rattle.crush_model.specs.Table.{Row}
use Rattle.crush_edits.specs.Setting.{SettingData}
use Rattle.crush_map.specs.MapData.{MapStands}
use Rattle.crush_history.specs.History.{behind, counted_after, turn}
use Rattle.crush_history.specs.Entries.{AreOf}
use Rattle.crush_run.proofs.in_turn.InTurn.run_script.Given as goal

abbrev pub invariant-loop-call : goal.invariant-loop-call
invariant-loop-call g l = record {
  table : l.book.table ≡ l.fn.book.table;
  rest : into_iter_items l.call-iterator ≡ drop l.number l.fn.calls.items;
  left : into_iter_len l.call-iterator + l.number ≡ length l.fn.calls.items;
  operators : (n : ℕ) → l.operator < n → AreOf n l.fn.book.history → AreOf n l.book.history;
  entries : (s : SettingData) (t : List Row) → MapStands l.fn.book.map s t →
      let h = turn s (behind t l.fn.book.history) l.operator (take l.number l.fn.calls.items) in (l.book.history ≡ l.fn.book.history ++ h) × MapStands l.book.map s (counted_after s (behind t l.fn.book.history) h).table;
}
