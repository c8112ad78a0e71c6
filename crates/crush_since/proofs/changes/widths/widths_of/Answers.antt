use Rattle.std.proofs.Common.{◌∙◌, ap, length, refl}
use Rattle.std.specs.Prelude.{ℕ, List, max}
use Rattle.crush_since.specs.ChangeText.{id_word, class_word, was_word, weight_word, weight_or_dash}
use Rattle.crush_since.specs.ClassChangesSeen.{shown_change}
use Rattle.crush_print.proofs.WalkLaws.{widest-taken}
use Rattle.crush_since.proofs.changes.widths.widths_of.Goals as goal

pub loop-row-init : goal.loop-row-init
loop-row-init g c = record { id = refl; class = refl; was = refl; weight = refl }

pub loop-row-preserved : goal.loop-row-preserved
loop-row-preserved g c =
    let rows = c.args.rows.now in
    let i = c.loop-row.row-index in
    let x = c.row-item.result in
    let lt = c.loop-row-test.true in
    let is = c.row-item.is in
    record {
      id = widest-taken (shown_change c.args.maps.now c.args.weights.now) id_word 2 _ _ rows i x lt is c.loop-row.invariant.id (c.in_ok-id.ensures ∙ ap (λ y. max c.loop-row.id (length (id_word y))) c.shown_change-change.ensures);
      class = widest-taken (shown_change c.args.maps.now c.args.weights.now) class_word 5 _ _ rows i x lt is c.loop-row.invariant.class
          (c.wider-class.ensures ∙ ap (λ (w : List ℕ). max c.loop-row.class (length w)) c.class_bytes.ensures ∙ ap (λ y. max c.loop-row.class (length (class_word y))) c.shown_change-change.ensures);
      was = widest-taken (shown_change c.args.maps.now c.args.weights.now) was_word 3 _ _ rows i x lt is c.loop-row.invariant.was
          (c.in_ok-was.ensures ∙ ap (λ w. max c.loop-row.was (length (weight_or_dash w))) c.weighed.ensures ∙ ap (λ y. max c.loop-row.was (length (was_word y))) c.shown_change-change.ensures);
      weight = widest-taken (shown_change c.args.maps.now c.args.weights.now) weight_word 6 _ _ rows i x lt is c.loop-row.invariant.weight
          (c.in_ok-weight.ensures ∙ ap (λ w. max c.loop-row.weight (length (weight_or_dash w))) c.weighs.ensures ∙ ap (λ y. max c.loop-row.weight (length (weight_word y))) c.shown_change-change.ensures);
    }
