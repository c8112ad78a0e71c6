use Rattle.std.proofs.Common.{◌∙◌, ◌++◌, [], ◌∷◌, ap, sym, map, append_assoc, false}
use Rattle.std.proofs.lemmas.List.{map-append}
use Rattle.crush_since.specs.ChangePart.{closed_by, down_to}
use Rattle.crush_since.specs.SeenChange.{row_change}
use Rattle.crush_since.proofs.PartRowLaws.{open_row, closed_row}
use Rattle.crush_since.proofs.changes.part.keep_open.Goals as goal

pub returns-then-is_closed : goal.returns-then-is_closed
returns-then-is_closed g c = λ rest. ap (λ l. map (row_change c.args.maps.now) c.args.kept.now.items ++ l) (closed_row c.args.kind c.args.closed (row_change c.args.maps.now c.args.row.now) rest (sym c.is_closed.ensures ∙ c.if-is_closed.true))

pub returns : goal.returns
returns g c = λ rest.
    open_row c.args.maps.now c.args.kind c.args.closed c.closed_by.result c.args.row.now c.args.kept.now.items c.push_row.new.kept.items rest (sym c.is_closed.ensures ∙ c.if-is_closed.false) c.closed_by.ensures c.in_ok-push_row.ensures
