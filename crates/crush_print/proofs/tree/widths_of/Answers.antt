use Rattle.std.proofs.Common.{◌∙◌, ap, length, refl}
use Rattle.std.specs.Prelude.{ℕ, List, max}
use Rattle.crush_print.specs.TreeLine.{line_data}
use Rattle.crush_print.specs.TreeText.{id_word, class_word, weight_word}
use Rattle.crush_print.proofs.WalkLaws.{widest-taken}
use Rattle.crush_print.proofs.tree.widths_of.Goals as goal

pub loop-line-init : goal.loop-line-init
loop-line-init c = record { id = refl; class = refl; weight = refl }

pub loop-line-preserved : goal.loop-line-preserved
loop-line-preserved c =
    let lines = c.args.lines.now in
    let i = c.loop-line.line-index in
    let x = c.line-item.result in
    let lt = c.loop-line-test.true in
    let is = c.line-item.is in
    record {
      id = widest-taken line_data id_word 2 _ _ lines i x lt is c.loop-line.invariant.id c.in_ok-id.ensures;
      class = widest-taken line_data class_word 5 _ _ lines i x lt is c.loop-line.invariant.class (c.wider-class.ensures ∙ ap (λ (w : List ℕ). max c.loop-line.class (length w)) c.bytes_of.ensures);
      weight = widest-taken line_data weight_word 6 _ _ lines i x lt is c.loop-line.invariant.weight c.in_ok-weight.ensures;
    }
