use Rattle.std.proofs.Common.{◌≡◌, take, map}
use Rattle.crush_print.specs.TreeLine.{line_data}
use Rattle.crush_print.specs.TreeText.{id_word, class_word, weight_word, widest}
use Rattle.crush_print.proofs.tree.widths_of.Given as goal

abbrev pub invariant-loop-line : goal.invariant-loop-line
invariant-loop-line l = record {
  id : l.id ≡ widest id_word 2 (map line_data (take l.line-index l.lines));
  class : l.class ≡ widest class_word 5 (map line_data (take l.line-index l.lines));
  weight : l.weight ≡ widest weight_word 6 (map line_data (take l.line-index l.lines));
}
