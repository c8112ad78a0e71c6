use Rattle.std.proofs.Common.{ap, map, ◌∙◌}
use Rattle.std.specs.Prelude.{◌&&◌, is_some, not}
use Rattle.std.specs.Cmp.Lexicographic.{pointwise}
use Rattle.crush_items.specs.Items.{item_entry}
use Rattle.crush_compare.specs.Comparison.{pair_entries}
use Rattle.crush_compare.specs.IdPairs.{class_ids_of}
use Rattle.crush_compare.specs.SameItem.{same_class_id}
use Rattle.crush_since.proofs.AsideLaws.{other_class_ids_of}
use Rattle.crush_since.proofs.names.aside.has_other_class_ids.Goals as goal

pub returns-then-is_in_both : goal.returns-then-is_in_both
returns-then-is_in_both g c = λ t u a b.
    let both = c.args.both.now in
    let pair = pair_entries both c.args.pair.now in
    ap not c.same_class_ids-same.ensures
    ∙ ap (λ s. s && not (pointwise same_class_id (class_ids_of pair.before) (class_ids_of pair.after))) (c.if-is_in_both.ensures ∙ (λ k. is_some (c.before-2.ensures k) && is_some (c.after.ensures k)))
    ∙ other_class_ids_of t u (map item_entry both.old.all.items) (map item_entry both.new.all.items) a b c.args.pair.now

pub returns-else-is_in_both : goal.returns-else-is_in_both
returns-else-is_in_both g c = λ t u a b.
    let both = c.args.both.now in
    let pair = pair_entries both c.args.pair.now in
    c.if-is_in_both.false
    ∙ ap (λ s. s && not (pointwise same_class_id (class_ids_of pair.before) (class_ids_of pair.after))) (c.if-is_in_both.ensures ∙ (λ k. is_some (c.before-2.ensures k) && is_some (c.after.ensures k)))
    ∙ other_class_ids_of t u (map item_entry both.old.all.items) (map item_entry both.new.all.items) a b c.args.pair.now
