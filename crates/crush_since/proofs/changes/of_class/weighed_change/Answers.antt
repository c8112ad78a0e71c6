use Rattle.std.proofs.Common.{ap, ◌∙◌}
use Rattle.std.specs.Option.{option_map}
use Rattle.crush_items.specs.SeenItem.{seen_data}
use Rattle.crush_since.specs.ClassChanges.{with_weight}
use Rattle.crush_since.specs.ClassChangesSeen.{weight_at}
use Rattle.crush_since.proofs.changes.of_class.weighed_change.Goals as goal

pub returns : goal.returns
returns c =
    let change = c.args.change.now in
    let pair = c.args.pair in
    let before = c.with_weight.ensures ∙ (λ k. option_map (with_weight (c.weight_at-before.ensures k)) (option_map seen_data change.before)) ∙ ap (λ l. option_map (with_weight (weight_at l pair.before)) (option_map seen_data change.before)) c.as_slice.ensures.value in
    let after = c.with_weight-2.ensures ∙ (λ k. option_map (with_weight (c.weight_at-after.ensures k)) (option_map seen_data change.after)) ∙ ap (λ l. option_map (with_weight (weight_at l pair.after)) (option_map seen_data change.after)) c.as_slice-2.ensures.value in
    λ k. record { id = change.id; depth = change.depth; stands = change.stands; was = before k; is = after k; same_class_ids = change.same_class_ids }
