use Rattle.std.proofs.Common.{◌++◌, List, rules, ap, ◌∙◌}
use Rattle.std.proofs.lemmas.List.Sorted.{IsNonDecreasingBy-from_sort_by_key}
use Rattle.crush_nodes.specs.Seen.{items_of}
use Rattle.crush_model.specs.Forest.{ForestData, all_items}
use Rattle.crush_reasons.specs.Sums.{sums_of}
use Rattle.crush_reasons.specs.declared.sums.Sum.{Sum}
use Rattle.crush_reasons.proofs.SumLaws.{roots_summed, sorted_sums}
use Rattle.crush_reasons.proofs.sums.sums_of_map.Goals as goal

pub returns : goal.returns
returns c = λ t stands.
    sorted_sums c.args.map.now.forest t _ _ stands
    (c.in_ok-push_nodes.ensures ∙ ap (λ (l : List Sum). l ++ sums_of (items_of c.roots.result.now)) c.new-sums.ensures.items ∙ ap sums_of c.roots.ensures.items ∙ roots_summed c.forest-forest.result.now c.recall_invariant.ensures.unplaced ∙ ap (λ (f : ForestData). sums_of (all_items f)) c.forest-forest.ensures)
    c.sort_unstable_by_key.ensures.permutation
    (IsNonDecreasingBy-from_sort_by_key (λ (s : Sum). s.bucket) _ c.sort_unstable_by_key.ensures.sorted (λ a r q k. search rules))
