use Rattle.std.proofs.Common.{sym, subst}
use Rattle.crush_model.specs.Forest.{rows_of}
use Rattle.crush_tree.specs.BufferReplaced.{CanReplaceBuffer}
use Rattle.crush_model.proofs.Stands.{stands_for_rows}
use Rattle.crush_hierarchy.proofs.IndexLemmas.{guided, indexed_after}
use Rattle.crush_hierarchy.proofs.hierarchy.Hierarchy.replace_buffer.Goals as goal

pub replace_buffer_by-before-requires : goal.replace_buffer_by-before-requires
replace_buffer_by-before-requires g c = guided c.self.inside.forest c.self.inside.index c.places.result.now c.places.ensures c.self.invariant.answers (subst (CanReplaceBuffer c.args.place c.args.given) (sym c.self.view_is) c.requires)

pub invariant_of-self : goal.invariant_of-self
invariant_of-self g c =
    let f = c.self.inside.forest in
    indexed_after c.self.inside.hashing c.replace_buffer_by-before.new.self (rows_of f) c.self.inside.index c.self.inside.counts c.self.inside.total c.self.invariant.hashed c.recall_invariant.ensures (c.replace_buffer_by-before.ensures.stands (rows_of f) (stands_for_rows f c.self.invariant.sound)) c.self.invariant.answers c.self.invariant.counted c.self.invariant.summed
