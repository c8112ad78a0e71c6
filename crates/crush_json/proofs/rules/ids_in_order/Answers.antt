use Rattle.std.proofs.Common.{refl, ap, ◌∙◌}
use Rattle.std.proofs.lemmas.List.Sorted.{IsNonDecreasingBy-from_sort}
use Rattle.crush_edits.specs.Setting.{RuleData}
use Rattle.crush_edits.specs.SettingSeen.{rule_data}
use Rattle.crush_print.specs.MapText.{ascending}
use Rattle.crush_print.proofs.InOrder.{numbers_seen}
use Rattle.crush_print.proofs.Sorting.{numbers_sorted}
use Rattle.crush_json.proofs.rules.ids_in_order.Goals as goal

pub returns : goal.returns
returns c =
    numbers_sorted _ _ c.sort_unstable.ensures.permutation (IsNonDecreasingBy-from_sort (λ n. n) _ c.sort_unstable.ensures.sorted)
    ∙ ap ascending (c.in_ok-ids.ensures ∙ numbers_seen (λ (r : RuleData). r.id) rule_data c.args.rules.now _ refl)
