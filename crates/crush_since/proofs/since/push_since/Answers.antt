use Rattle.std.proofs.Common.{ap, ◌∙◌, ◌++◌}
use Rattle.std.specs.Prelude.{flat_map}
use Rattle.crush_print.proofs.InOrder.{section_pushed}
use Rattle.crush_since.specs.Since.{plain_map, all_ids, id_line, item_lines, last_lines, since_text}
use Rattle.crush_since.proofs.since.push_since.Goals as goal

pub returns : goal.returns
unfolding since_text item_lines
returns g c = λ t u a b.
    let s = c.args.old.now.setting in
    let p = c.args.new.now.setting in
    let ids = all_ids t u in
    let are = (c.in_ok-both.ensures.pairs t u a b).pairs in
    section_pushed c.push_last.result c.args.out.now.items c.push_lines.new.out.items c.push_last.new.out.items (item_lines (plain_map s t) (plain_map p u)) _ _
    (c.in_ok-push_lines.ensures t u ids are ∙ (λ i. c.args.out.now.items ++ flat_map (id_line (plain_map (c.in_ok-both.ensures.old i).setting t) (plain_map (c.in_ok-both.ensures.new i).setting u)) ids))
    (c.push_last.ensures t u a b) (ap (last_lines (plain_map s t) (plain_map p u)) (c.of.ensures t u ids are))
