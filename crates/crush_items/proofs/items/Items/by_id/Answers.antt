use Rattle.std.proofs.Common.{rules, ◌∙◌, ap, map}
use Rattle.std.proofs.lemmas.List.Sorted.{IsNonDecreasingBy-from_sort_by_key}
use Rattle.crush_items.specs.ById.{places_from}
use Rattle.crush_items.specs.Items.{item_entry}
use Rattle.crush_items.proofs.PlaceLaws.{sorted_by_id}
use Rattle.crush_items.proofs.items.Items.by_id.Goals as goal

pub returns : goal.returns
returns g c = λ t has.
    sorted_by_id t _ _ _ has (c.in_ok-places.ensures ∙ ap (λ l. places_from 0 (map item_entry l)) c.as_slice.ensures.value) c.sort_unstable_by_key.ensures.permutation
    (IsNonDecreasingBy-from_sort_by_key (λ p. p.key) _ c.sort_unstable_by_key.ensures.sorted (λ a r q k. search rules))
