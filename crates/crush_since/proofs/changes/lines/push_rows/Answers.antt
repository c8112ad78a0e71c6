use Rattle.std.proofs.Common.{◌≡◌, ◌++◌, map, subst}
use Rattle.std.specs.Prelude.{OnOk, flat_map}
use Rattle.crush_print.proofs.InOrder.{section_pushed}
use Rattle.crush_since.specs.ChangeText.{change_line, heading, rows_text}
use Rattle.crush_since.specs.ClassChangesSeen.{shown_change}
use Rattle.crush_print.proofs.WalkLaws.{flat-map}
use Rattle.crush_since.proofs.changes.lines.push_rows.Goals as goal

pub returns : goal.returns
unfolding rows_text
returns g c =
    let rows = c.args.rows.now in
    let s = c.args.maps.now.old.map.now.setting in
    let p = c.args.maps.now.new.map.now.setting in
    let w = c.in_ok-widths.widths in
    subst (λ x. OnOk c.push_lines.result (c.push_lines.new.out.items ≡ c.args.out.now.items ++ (heading x ++ flat_map (change_line s p x) (map (shown_change c.args.maps.now c.args.weights.now) rows)))) c.in_ok-widths.ensures
    (section_pushed c.push_lines.result c.args.out.now.items c.push_heading.new.out.items c.push_lines.new.out.items (heading w) (flat_map (λ row. change_line s p w (shown_change c.args.maps.now c.args.weights.now row)) rows) (flat_map (change_line s p w) (map (shown_change c.args.maps.now c.args.weights.now) rows))
    c.in_ok-push_heading.ensures c.push_lines.ensures (flat-map (change_line s p w) (shown_change c.args.maps.now c.args.weights.now) rows))
