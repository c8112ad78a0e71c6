use Rattle.std.proofs.Common.{◌≡◌, ◌*◌, ◌-◌, ◌<◌, ◌≤◌, ◌∷◌, length, reverse, drop, map}
use Rattle.crush_since.specs.Collected.{Amount}
use Rattle.crush_since.specs.CollectedSeen.{item_data, use_amount, use_data}
use Rattle.crush_since.specs.Grouped.{grouped}
use Rattle.crush_since.proofs.since.collected.grouped.Given as goal

-- the classes so far are those of the last `back` items, which the loop has visited
abbrev pub invariant-loop-back : goal.invariant-loop-back
invariant-loop-back l = record {
  counted : l.count ≡ length l.items;
  some : 0 < l.count;
  least : 1 ≤ l.back;
  most : l.back ≤ l.count;
  classes : use_data l.current ∷ reverse (map use_data l.done.items) ≡ grouped (map item_data (drop (l.count - l.back) l.items));
  low : (k : Amount) → use_amount l.current k ≤ l.back * 4294967296;
}
