use Rattle.std.proofs.Common.{rules, ◌∙◌, ◌++◌, ap, map}
use Rattle.std.proofs.lemmas.List.Sorted.{IsNonDecreasingBy-from_sort_by_key}
use Rattle.std.proofs.lemmas.List.{append-nil}
use Rattle.crush_nodes.specs.Seen.{items_of}
use Rattle.crush_print.specs.ItemsText.{buckets_among}
use Rattle.crush_since.proofs.BucketLaws.{sorted_buckets}
use Rattle.crush_since.proofs.changes.buckets.Buckets.of.Goals as goal

pub invariant_of-result : goal.invariant_of-result
invariant_of-result g c =
    sorted_buckets (λ x. x.now) c.forest-forest.result.now _ _ _ c.recall_invariant.ensures c.roots.ensures.items (c.in_ok-push_tops.ensures ∙ ap (λ l. map (λ x. x.now) l ++ buckets_among (items_of c.roots.result.now)) c.new-sorted.ensures.items) c.sort_unstable_by_key.ensures.permutation
    (IsNonDecreasingBy-from_sort_by_key (λ x. x.now.header.id) _ c.sort_unstable_by_key.ensures.sorted (λ a r q k. search rules))
