use Rattle.std.proofs.Common.{◌≡◌, ℕ, length, take}
use Rattle.std.specs.Prelude.{vec_len, vec_capacity}
use Rattle.crush_model.specs.Items.{size_of}
use Rattle.crush_nodes.specs.Ops.{without_capacity}
use Rattle.crush_nodes.specs.Room.{bucket_room}
use Rattle.crush_nodes.specs.Seen.{items_of}
use Rattle.crush_nodes.proofs.copy.+copy_items.Given as goal

abbrev pub decreases-copy_items : goal.decreases-copy_items
decreases-copy_items g l = size_of (items_of l.items.now)

abbrev pub invariant-loop-node : goal.invariant-loop-node
invariant-loop-node g l = record {
  room : vec_capacity l.copies ≡ length l.items;
  count : vec_len l.copies ≡ l.node-index;
  same : without_capacity (items_of l.copies.items) ≡ without_capacity (items_of (take l.node-index l.items));
  rooms : (b : ℕ) → bucket_room b (items_of l.copies.items) ≡ 0;
}
