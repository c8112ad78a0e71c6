use Rattle.std.specs.Prelude.{◌≡◌, ◌++◌, None, flat_map, map, codes}
use Rattle.std.proofs.Common.{ap, ◌∙◌}
use Rattle.crush_model.specs.ItemRows.{bucket_row}
use Rattle.crush_nodes.specs.Seen.{header_data, shadow_data, items_of}
use Rattle.crush_print.specs.ItemsText.{item_lines}
use Rattle.crush_print.specs.Lines.{bucket_head, bucket_choice, bucket_lines, class_id_line}
use Rattle.crush_print.proofs.ItemLines.{bucket_more}
use Rattle.crush_print.proofs.lines.push_bucket.Goals as goal

pub returns : goal.returns
unfolding bucket_lines
returns g c =
    let r = bucket_row None (header_data c.args.header.now) in
    let ids : c.push_class_ids.new.out.items ≡ c.push_head.new.out.items ++ flat_map class_id_line r.class_ids =
    c.in_ok-push_class_ids.ensures ∙ ap (λ l. c.push_head.new.out.items ++ flat_map class_id_line (map shadow_data l)) c.as_slice.ensures.value in
    bucket_more _ _ _ _ _ _ _ (bucket_head c.args.kind.now r.name r.id) (flat_map class_id_line r.class_ids) (bucket_choice c.args.form r c.args.weight) (item_lines c.args.form (items_of c.args.items.now)) (codes "}\n") c.in_ok-push_head.ensures ids c.in_ok-push_choice.ensures c.in_ok-push_items.ensures c.extend_from_slice.ensures.items
