use Rattle.std.proofs.Common.{rules, map, ap, ◌∙◌, ◌≡◌}
use Rattle.std.proofs.lemmas.Fn.{always_returns_same}
use Rattle.crush_since.specs.CollectedSeen.{item_data, use_data}
use Rattle.crush_since.specs.Grouped.{grouped}
use Rattle.crush_since.specs.declared.since.collected.ClassItem.{ClassItem}
use Rattle.crush_since.proofs.SortedItems.{grouped_collected, map_reverse}
use Rattle.crush_since.proofs.since.collected.collected.Goals as goal

pub returns : goal.returns
returns c =
    ap (map use_data) c.reverse.ensures.items ∙ map_reverse use_data c.in_ok-uses.uses.items ∙ c.in_ok-uses.ensures ∙ ap (λ l. grouped (map item_data l)) c.as_slice.ensures.value
    ∙ grouped_collected c.args.items.items c.sort_unstable_by_key.new.self.items c.sort_unstable_by_key.ensures.permutation
    (c.sort_unstable_by_key.ensures.sorted (λ (x : ClassItem). x.name) (always_returns_same _ (λ a r. r ≡ a.0.now.name) _ (λ a r q k. search rules)))
