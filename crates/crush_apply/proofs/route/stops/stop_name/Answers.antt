use Rattle.std.proofs.Common.{List, get_or, ap, ◌∙◌}
use Rattle.crush_edits.specs.declared.location.Pair.{Pair}
use Rattle.crush_apply.proofs.Stopped.{name_at}
use Rattle.crush_apply.proofs.route.stops.stop_name.Goals as goal

pub returns : goal.returns
returns c =
    ap (λ (p : Pair). p.name) c.index-pairs-stop.is
    ∙ ap (λ (l : List Pair). (get_or l c.args.stop.now.pair c.index-pairs-stop.result).name) c.pairs-pairs.ensures.value
    ∙ name_at c.args.at.now c.args.stop.now.pair c.index-pairs-stop.result c.requires
