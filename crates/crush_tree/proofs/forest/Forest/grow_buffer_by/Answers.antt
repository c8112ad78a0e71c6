use Rattle.std.proofs.Common.{rules, sym, ◌∙◌}
use Rattle.crush_tree.proofs.GuideLemmas.{search_knows}
use Rattle.crush_tree.proofs.ReachLemmas.{reached_place, place_led}
use Rattle.crush_tree.proofs.forest.Forest.grow_buffer_by.Goals as goal

pub grow_buffer_along-requires : goal.grow_buffer_along-requires
grow_buffer_along-requires g c = record { known = search_knows c.args.place; can = c.requires.can }

pub along_mut-requires-clause-reach : goal.along_mut-requires-clause-reach
along_mut-requires-clause-reach g c = reached_place (g.G.Guide.place_of c.args.guide.now) c.args.self.now c.args.place c.in-Some.bucket (sym c.holder.ensures ∙ c.in-Some.is) c.recall_invariant.ensures c.requires.guides c.requires.can

pub along_mut-requires-clause-may : goal.along_mut-requires-clause-may
along_mut-requires-clause-may g c t place descent same reaches =
    let led = place_led (g.G.Guide.place_of c.args.guide.now) c.args.self.now c.args.place c.in-Some.bucket (sym c.holder.ensures ∙ c.in-Some.is) c.recall_invariant.ensures c.requires.guides t.now same place descent.now.above.now reaches in
    search rules
