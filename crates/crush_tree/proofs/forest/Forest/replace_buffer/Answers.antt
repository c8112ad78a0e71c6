use Rattle.crush_tree.proofs.GuideLemmas.{search_knows}
use Rattle.crush_tree.proofs.forest.Forest.replace_buffer.Goals as goal

pub replace_buffer_along-requires : goal.replace_buffer_along-requires
replace_buffer_along-requires g c =
    record {
      known = search_knows c.args.place;
      can = c.requires;
    }
