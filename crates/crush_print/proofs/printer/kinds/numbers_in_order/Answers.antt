use Rattle.std.proofs.Common.{ap, ◌∙◌}
use Rattle.std.proofs.lemmas.List.Sorted.{IsNonDecreasingBy-from_sort}
use Rattle.crush_edits.specs.Setting.{KindData}
use Rattle.crush_edits.specs.SettingSeen.{kind_data}
use Rattle.crush_print.specs.MapText.{ascending, kind_numbers}
use Rattle.crush_items.proofs.Sorting.{numbers_sorted}
use Rattle.crush_print.proofs.InOrder.{numbers_seen}
use Rattle.crush_print.proofs.printer.kinds.numbers_in_order.Goals as goal

pub returns : goal.returns
unfolding kind_numbers
returns c =
    numbers_sorted _ _ c.sort_unstable.ensures.permutation (IsNonDecreasingBy-from_sort (λ n. n) _ c.sort_unstable.ensures.sorted)
    ∙ ap ascending (c.in_ok-numbers.ensures ∙ numbers_seen (λ (k : KindData). k.number) kind_data c.kinds.result.now.entries _ c.kinds.ensures)
