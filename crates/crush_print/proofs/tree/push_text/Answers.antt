use Rattle.std.proofs.Common.{◌≡◌, ◌++◌, map, subst}
use Rattle.std.specs.Prelude.{OnOk, flat_map}
use Rattle.crush_print.proofs.InOrder.{section_pushed}
use Rattle.crush_print.specs.TreeLine.{line_data}
use Rattle.crush_print.specs.TreeText.{heading, step_line, steps_text}
use Rattle.crush_print.proofs.WalkLaws.{flat-map}
use Rattle.crush_print.proofs.tree.push_text.Goals as goal

pub returns : goal.returns
unfolding steps_text
returns c =
    let lines = c.args.lines.now in
    let s = c.args.setting.now in
    let w = c.in_ok-widths.widths in
    subst (λ x. OnOk c.push_lines.result (c.push_lines.new.out.items ≡ c.args.out.now.items ++ (heading x ++ flat_map (step_line s x) (map line_data lines)))) c.in_ok-widths.ensures
    (section_pushed c.push_lines.result c.args.out.now.items c.push_heading.new.out.items c.push_lines.new.out.items (heading w) (flat_map (λ y. step_line s w (line_data y)) lines) (flat_map (step_line s w) (map line_data lines))
    c.in_ok-push_heading.ensures c.push_lines.ensures (flat-map (step_line s w) line_data lines))
