use Rattle.std.proofs.Common.{◌≡◌, ◌≤◌, map, take}
use Rattle.crush_history.specs.HistoryText.{names_of}
use Rattle.crush_history.specs.Refused.{refusals}
use Rattle.crush_history.specs.Script.{scripts_data}
use Rattle.crush_reasons.specs.Explained.{AreExplained}
use Rattle.crush_reasons.specs.EditsLeft.{AreLeft, head_in, lines_left}
use Rattle.crush_reasons.proofs.explained.push_entries.Given as goal

abbrev pub invariant-loop-place : goal.invariant-loop-place
invariant-loop-place g l = record {
  told : AreExplained (head_in (g.O.Locates.origin l.told.origins.now) (map (λ numbers. numbers.items) l.told.sections.now)) (names_of (scripts_data l.told.scripts.now)) l.fn.map l.map l.fn.text.items l.text.items (take l.place l.entries);
  left : AreLeft (map (λ numbers. numbers.items) l.told.sections.now) (lines_left l.left) (take l.place l.entries);
  few : l.refused ≤ l.place;
  refused : l.refused ≡ refusals (take l.place l.entries);
}
