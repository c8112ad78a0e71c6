use Rattle.std.proofs.Common.{rules, ◌∙◌}
use Rattle.std.proofs.lemmas.List.Sorted.{IsNonDecreasingBy-from_sort_by_key}
use Rattle.crush_json.proofs.ItemLaws.{all_among, buckets_documented}
use Rattle.crush_json.proofs.BucketLaws.{are_buckets}
use Rattle.crush_json.proofs.items.buckets_in_order.Goals as goal

pub returns-clause-documents : goal.returns-clause-documents
returns-clause-documents g c = λ s t stands.
    buckets_documented (λ b. b.now) s c.args.forest.now t c.in_ok-buckets.buckets.items c.sort_unstable_by_key.new.self.items
    (c.in_ok-buckets.ensures ∙ all_among c.args.forest.now _ c.recall_invariant.ensures.unplaced c.roots.ensures.items)
    c.sort_unstable_by_key.ensures.permutation
    (IsNonDecreasingBy-from_sort_by_key (λ b. b.now.header.id) _ c.sort_unstable_by_key.ensures.sorted (λ a r q k. search rules)) stands

pub returns-clause-items : goal.returns-clause-items
returns-clause-items g c = λ t stands.
    are_buckets (λ b. b.now) c.args.forest.now t c.in_ok-buckets.buckets.items c.sort_unstable_by_key.new.self.items
    (c.in_ok-buckets.ensures ∙ all_among c.args.forest.now _ c.recall_invariant.ensures.unplaced c.roots.ensures.items)
    c.sort_unstable_by_key.ensures.permutation
    (IsNonDecreasingBy-from_sort_by_key (λ b. b.now.header.id) _ c.sort_unstable_by_key.ensures.sorted (λ a r q k. search rules)) stands
