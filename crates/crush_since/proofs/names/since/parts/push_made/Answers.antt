use Rattle.std.proofs.Common.{◌++◌, List, ℕ, ap, append_assoc, ◌∙◌}
use Rattle.std.specs.Prelude.{codes}
use Rattle.std.proofs.lemmas.Result.{on_ok_weaker}
use Rattle.crush_items.specs.SeenItem.{seen_data}
use Rattle.crush_since.specs.SinceNames.{whole_word}
use Rattle.crush_since.proofs.names.since.parts.push_made.Goals as goal

pub returns : goal.returns
returns c =
    let old = c.args.parts.now.items in
    let word = whole_word c.args.setting.now (seen_data c.args.item.now) in
    on_ok_weaker c.push_whole.result (λ is. is ∙ ap (λ (l : List ℕ). l ++ word) c.in_ok-extend_from_slice.ensures.items ∙ append_assoc old (codes "; made as ") word) c.push_whole.ensures
