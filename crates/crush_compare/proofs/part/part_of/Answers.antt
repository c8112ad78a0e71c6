use Rattle.std.proofs.lemmas.Result.{IfOk-weaker}
use Rattle.crush_compare.proofs.RunPairs.{named_part, no_part}
use Rattle.crush_compare.proofs.part.part_of.Goals as goal

pub returns-in-Some : goal.returns-in-Some
returns-in-Some g c =
    IfOk-weaker c.positions_at.result _ _ (λ run are t stands has tree. named_part t c.args.name.now c.in-Some.top _ run stands.lawful (c.in-Some.ensures t stands) (are t stands has tree)) c.positions_at.ensures

pub returns-in-None : goal.returns-in-None
returns-in-None g c = λ t stands has tree. no_part t c.args.name.now _ (c.in-None.ensures t stands)
