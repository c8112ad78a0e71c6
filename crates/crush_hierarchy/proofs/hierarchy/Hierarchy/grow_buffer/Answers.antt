use Rattle.std.proofs.Common.{◌≡◌, true, sym, subst}
use Rattle.crush_model.specs.Forest.{rows_of}
use Rattle.crush_nodes.specs.Ops.{is_place}
use Rattle.crush_model.proofs.Stands.{stands_for_rows}
use Rattle.crush_hierarchy.proofs.IndexLemmas.{guided, indexed_after}
use Rattle.crush_hierarchy.proofs.hierarchy.Hierarchy.grow_buffer.Goals as goal

pub grow_buffer_by-done-requires : goal.grow_buffer_by-done-requires
grow_buffer_by-done-requires g c = guided c.self.inside.forest c.self.inside.index c.places.result.now c.places.ensures c.self.invariant.answers (subst (λ z. is_place (rows_of z) c.args.place ≡ true) (sym c.self.view_is) c.requires)

pub invariant_of-self : goal.invariant_of-self
invariant_of-self g c =
    let f = c.self.inside.forest in
    indexed_after c.self.inside.hashing c.grow_buffer_by-done.new.self (rows_of f) c.self.inside.index c.self.inside.counts c.self.inside.total c.self.invariant.hashed c.recall_invariant.ensures (c.grow_buffer_by-done.ensures.stands (rows_of f) (stands_for_rows f c.self.invariant.sound)) c.self.invariant.answers c.self.invariant.counted c.self.invariant.summed
