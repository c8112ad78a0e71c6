use Rattle.crush_compare.proofs.RunPairs.{found_run, not_found}
use Rattle.crush_compare.proofs.part.positions_at.Goals as goal

pub returns-in-Some : goal.returns-in-Some
returns-in-Some g c = λ t stands has tree.
    found_run t c.args.items.now.all.items stands.lawful has tree c.args.top c.in-Some.place c.run.result (c.in-Some.ensures.entry t _ stands.lawful (c.in_ok-by_id.ensures t has)) c.run.ensures.from c.run.ensures.to (c.run.ensures.table t stands tree)

pub returns : goal.returns
returns g c = λ t stands has tree. not_found t c.args.items.now.all.items stands.lawful has tree c.args.top (c.in-None.ensures.entry t _ stands.lawful (c.in_ok-by_id.ensures t has))
