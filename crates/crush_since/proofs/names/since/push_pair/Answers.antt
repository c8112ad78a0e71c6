use Rattle.std.proofs.Common.{◌++◌, ◌∙◌}
use Rattle.std.proofs.lemmas.Result.{on_ok_weaker}
use Rattle.crush_since.specs.SinceNames.{changed_pair}
use Rattle.crush_since.proofs.names.since.push_pair.Goals as goal

pub returns : goal.returns
returns g c =
    on_ok_weaker c.push_changed_pair.result (λ is. is ∙ (λ i. c.args.out.now.items ++ changed_pair (c.setting-old.ensures i) (c.setting-new.ensures i) (record { before = c.before-2.ensures i; after = c.after.ensures i })))
    c.push_changed_pair.ensures
