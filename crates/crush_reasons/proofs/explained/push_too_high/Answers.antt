use Rattle.std.proofs.Common.{◌++◌, List, ℕ, ap, ◌∙◌}
use Rattle.std.proofs.lemmas.Result.{on_ok_weaker}
use Rattle.std.specs.Prelude.{decimal}
use Rattle.crush_reasons.specs.Explained.{so_far}
use Rattle.crush_reasons.proofs.Lines.{two_pushed}
use Rattle.crush_reasons.proofs.explained.push_too_high.Goals as goal

pub returns : goal.returns
returns c =
    let old = c.args.text.now.items in
    let first = c.in_ok-extend_from_slice.ensures.items ∙ ap (λ (l : List ℕ). old ++ l) (c.as_bytes.ensures.value ∙ c.format.ensures.text) in
    on_ok_weaker c.push_so_far.result (λ e. two_pushed old (decimal c.args.seen) (so_far c.args.count) _ _ first e) c.push_so_far.ensures
