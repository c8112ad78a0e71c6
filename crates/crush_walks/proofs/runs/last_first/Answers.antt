use Rattle.std.proofs.Common.{◌≡◌, length, reverse, ap, ◌∙◌}
use Rattle.crush_nodes.proofs.Steps.{with_items_same}
use Rattle.crush_walks.proofs.RunSteps.{left_of-reverse}
use Rattle.crush_walks.proofs.runs.last_first.Goals as goal

pub returns : goal.returns
returns g c =
    let as_many : length c.reverse.new.self ≡ length c.args.runs.items = c.reverse.ensures.len ∙ ap length c.as_mut_slice.ensures.value in
    left_of-reverse c.args.runs.items _ (with_items_same c.args.runs c.reverse.new.self as_many ∙ c.reverse.ensures.after ∙ ap reverse c.as_mut_slice.ensures.value)
