use Rattle.crush_tree.proofs.GuideLemmas.{search_knows}
use Rattle.crush_tree.proofs.forest.Forest.grow_buffer.Goals as goal

pub grow_buffer_along-requires : goal.grow_buffer_along-requires
grow_buffer_along-requires g c =
    record {
      known = search_knows c.args.place;
      can = c.requires;
    }
