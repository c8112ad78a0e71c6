use Rattle.std.proofs.Common.{◌≡◌, ◌+◌, List, drop}
use Rattle.crush_model.specs.Stands.{Stands}
use Rattle.crush_model.specs.Table.{Row}
use Rattle.crush_history.specs.HistoryText.{names_of}
use Rattle.crush_history.specs.Script.{scripts_data}
use Rattle.crush_reasons.proofs.Creating.{LinesLeft}
use Rattle.crush_reasons.proofs.created.push_entries.Given as goal

abbrev pub invariant-loop-place : goal.invariant-loop-place
invariant-loop-place l = record {
  setting : l.map.setting ≡ l.fn.map.setting;
  left : (t : List Row) → Stands l.fn.map.forest t
      → LinesLeft l.fn.map.setting t (names_of (scripts_data l.scripts)) l.entries l.fn.text.items l.text.items l.map (l.place + 1) l.left (drop l.place l.entries);
}
