use Rattle.std.proofs.Common.{◌∙◌, [], ap, sym, map, arith, append-nil}
use Rattle.std.proofs.lemmas.List.{take_all}
use Rattle.crush_since.specs.ChangePart.{rows_at}
use Rattle.crush_since.specs.SeenChange.{row_change}
use Rattle.crush_since.proofs.PartRowLaws.{nothing_to_come}
use Rattle.crush_since.proofs.changes.part.rows_at.Goals as goal

pub returns : goal.returns
returns g c =
    nothing_to_come c.args.item.now c.loop-row.reached (map (row_change c.args.maps.now) c.loop-row.kept.items) ∙ sym (c.loop-row.invariant [])
    ∙ ap (rows_at c.args.item.now) (append-nil _ ∙ ap (map (row_change c.args.maps.now)) (take_all c.loop-row.row-index c.args.rows.now (omega (arith, c.loop-row-test.false))))
