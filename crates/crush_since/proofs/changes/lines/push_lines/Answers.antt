use Rattle.std.proofs.Common.{arith, ap, ◌∙◌, ◌++◌}
use Rattle.std.proofs.lemmas.List.{take_all}
use Rattle.std.specs.Prelude.{flat_map}
use Rattle.crush_since.specs.ChangeText.{change_line}
use Rattle.crush_since.specs.ClassChangesSeen.{shown_change}
use Rattle.crush_print.proofs.WalkLaws.{one_more, more_steps}
use Rattle.crush_since.proofs.changes.lines.push_lines.Goals as goal

pub loop-row-preserved : goal.loop-row-preserved
loop-row-preserved g c =
    let maps = c.args.maps.now in
    one_more _ _ _ _ _ _ c.loop-row.invariant c.in_ok-push_row_of.ensures
    (more_steps (λ row. change_line maps.old.map.now.setting maps.new.map.now.setting c.args.widths.now (shown_change maps c.args.weights.now row)) c.args.rows.now c.loop-row.row-index c.row-item.result c.loop-row-test.true c.row-item.is)

pub returns : goal.returns
returns g c =
    let maps = c.args.maps.now in
    c.loop-row.invariant
    ∙ ap (λ l. c.args.out.now.items ++ flat_map (λ row. change_line maps.old.map.now.setting maps.new.map.now.setting c.args.widths.now (shown_change maps c.args.weights.now row)) l)
    (take_all c.loop-row.row-index c.args.rows.now (omega (arith, c.loop-row-test.false)))
