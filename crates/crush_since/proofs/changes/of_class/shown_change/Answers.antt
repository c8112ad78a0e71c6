use Rattle.std.proofs.Common.{ap, ◌∙◌}
use Rattle.crush_since.specs.ClassChangesSeen.{weighed_change, weight_at}
use Rattle.crush_since.proofs.changes.of_class.shown_change.Goals as goal

pub returns-in-Some : goal.returns-in-Some
returns-in-Some g c =
    let ws = c.in-Some.weights in
    let pair = c.args.row.now.pair in
    rw c.in-Some.is (c.weighed_change.ensures ∙ ap (weighed_change (weight_at ws.before.items pair.before) (weight_at ws.after.items pair.after)) c.change_of-change.ensures)

pub returns-in-None : goal.returns-in-None
returns-in-None g c = rw c.in-None.is c.change_of-change.ensures
