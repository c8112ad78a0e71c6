use Rattle.std.proofs.Common.{◌≡◌, take, map}
use Rattle.crush_since.specs.ChangeText.{id_word, class_word, was_word, weight_word}
use Rattle.crush_since.specs.ClassChangesSeen.{shown_change}
use Rattle.crush_print.specs.TreeText.{widest}
use Rattle.crush_since.proofs.changes.widths.widths_of.Given as goal

abbrev pub invariant-loop-row : goal.invariant-loop-row
invariant-loop-row g l = record {
  id : l.id ≡ widest id_word 2 (map (shown_change l.maps l.weights) (take l.row-index l.rows));
  class : l.class ≡ widest class_word 5 (map (shown_change l.maps l.weights) (take l.row-index l.rows));
  was : l.was ≡ widest was_word 3 (map (shown_change l.maps l.weights) (take l.row-index l.rows));
  weight : l.weight ≡ widest weight_word 6 (map (shown_change l.maps l.weights) (take l.row-index l.rows));
}
