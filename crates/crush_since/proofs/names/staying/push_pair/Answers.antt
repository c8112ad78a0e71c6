use Rattle.std.proofs.Common.{◌++◌, ◌∙◌}
use Rattle.std.proofs.lemmas.Result.{on_ok_weaker}
use Rattle.crush_since.specs.Stays.{line_texts, stay_pair}
use Rattle.crush_since.proofs.names.staying.push_pair.Goals as goal

pub returns : goal.returns
returns g c =
    on_ok_weaker c.push_stay_pair.result (λ is. is ∙ (λ i. line_texts c.args.lines.now.items ++ stay_pair (c.setting-map.ensures i) (c.setting-wanted.ensures i) (record { before = c.before-2.ensures i; after = c.after.ensures i })))
    c.push_stay_pair.ensures
