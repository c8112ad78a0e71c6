use Rattle.std.proofs.Common.{◌∙◌, [], ap, sym, map, arith, append-nil}
use Rattle.std.specs.Prelude.{None}
use Rattle.std.proofs.lemmas.List.{take_all}
use Rattle.crush_since.specs.ChangePart.{down_to}
use Rattle.crush_since.specs.SeenChange.{row_change}
use Rattle.crush_since.proofs.changes.part.down_to.Goals as goal

pub returns : goal.returns
returns g c =
    sym (append-nil (map (row_change c.args.maps.now) c.loop-row.kept.items)) ∙ sym (c.loop-row.invariant [])
    ∙ ap (down_to c.args.kind None) (append-nil _ ∙ ap (map (row_change c.args.maps.now)) (take_all c.loop-row.row-index c.args.rows.now (omega (arith, c.loop-row-test.false))))
