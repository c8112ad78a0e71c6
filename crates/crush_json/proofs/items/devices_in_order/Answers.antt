use Rattle.std.proofs.Common.{rules, ap, map}
use Rattle.std.proofs.lemmas.List.Sorted.{IsNonDecreasingBy-from_sort_by_key}
use Rattle.crush_nodes.specs.Seen.{leaf_data}
use Rattle.crush_print.proofs.InOrder.{found_all}
use Rattle.crush_json.proofs.ItemLaws.{devices_documented}
use Rattle.crush_json.proofs.items.devices_in_order.Goals as goal

pub returns : goal.returns
returns g c = λ t stands.
    devices_documented (λ r. leaf_data r.now) c.args.forest.now t c.find_devices-2.new.found.items c.sort_unstable_by_key.new.self.items
    (found_all c.args.forest.now _ _ _ _ _ (ap (map (λ r. leaf_data r.now)) c.new-devices.ensures.items) c.in_ok-find_devices.ensures c.in_ok-find_devices-2.ensures c.unplaced.ensures.items c.roots.ensures.items)
    c.sort_unstable_by_key.ensures.permutation
    (IsNonDecreasingBy-from_sort_by_key (λ r. (leaf_data r.now).id) _ c.sort_unstable_by_key.ensures.sorted (λ a r q k. search rules)) stands
