use Rattle.crush_since.proofs.PartRowLaws.{row_kept}
use Rattle.crush_since.proofs.changes.part.keep_from.Goals as goal

pub returns : goal.returns
returns g c = λ rest. row_kept c.args.maps.now c.args.item.now c.args.reached c.reach-now.result c.args.row.now c.args.kept.now.items c.push_reached.new.kept.items rest c.reach-now.ensures c.in_ok-push_reached.ensures
