use Rattle.std.proofs.Common.{rules, ◌∙◌, ap, subst, map}
use Rattle.std.proofs.lemmas.List.Sorted.{IsNonDecreasingBy-from_sort_by_key, IsPermutation-map}
use Rattle.std.specs.List.Sorted.{IsPermutation}
use Rattle.crush_nodes.specs.Seen.{node_id}
use Rattle.crush_items.specs.Order.{id_number}
use Rattle.crush_items.specs.Order.{ascending}
use Rattle.crush_items.proofs.Sorting.{numbers_seen}
use Rattle.crush_items.proofs.Sorting.{sorted_is_ascending}
use Rattle.crush_items.proofs.order.nodes_in_order.Goals as goal

pub returns-clause-same : goal.returns-clause-same
returns-clause-same g c =
    subst (λ l. IsPermutation l (map (λ r. r.now) c.sort_unstable_by_key.new.self.items)) c.in_ok-sorted.ensures
    (IsPermutation-map (λ r. r.now) c.in_ok-sorted.sorted.items c.sort_unstable_by_key.new.self.items c.sort_unstable_by_key.ensures.permutation)

pub returns-clause-rising : goal.returns-clause-rising
returns-clause-rising g c =
    sorted_is_ascending (λ r. id_number (node_id r.now)) c.in_ok-sorted.sorted.items c.sort_unstable_by_key.new.self.items c.sort_unstable_by_key.ensures.permutation
    (IsNonDecreasingBy-from_sort_by_key (λ r. id_number (node_id r.now)) _ c.sort_unstable_by_key.ensures.sorted (λ a r q k. search rules))
    ∙ ap ascending (numbers_seen (λ n. id_number (node_id n)) (λ r. r.now) c.in_ok-sorted.sorted.items c.args.nodes.now c.in_ok-sorted.ensures)
