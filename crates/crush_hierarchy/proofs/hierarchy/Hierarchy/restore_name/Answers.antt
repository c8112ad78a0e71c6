use Rattle.std.proofs.Common.{ap, sym, subst, ◌∙◌}
use Rattle.std.specs.Prelude.{Some, is_some, not}
use Rattle.crush_model.specs.Forest.{rows_of}
use Rattle.crush_model.proofs.Stands.{stands_for_rows}
use Rattle.crush_tree.specs.Required.{CanRename}
use Rattle.crush_index.specs.IndexAnswers.{answers, with_name, without_name}
use Rattle.crush_index.specs.NamesAnswers.{id_answer}
use Rattle.crush_hierarchy.proofs.IndexLemmas.{guided}
use Rattle.crush_hierarchy.proofs.RenameLemmas.{indexed_named, named_free, named_own}
use Rattle.crush_hierarchy.proofs.hierarchy.Hierarchy.restore_name.Goals as goal

pub rename_by-other-requires : goal.rename_by-other-requires
rename_by-other-requires g c = guided c.self.inside.forest c.self.inside.index c.places.result.now c.places.ensures c.self.invariant.answers (subst (λ z. CanRename c.args.id c.args.old.name z) (sym c.self.view_is) c.requires.can)

pub invariant_of-self : goal.invariant_of-self
invariant_of-self g c =
    let f = c.self.inside.forest in
    let t = rows_of f in
    let i = c.args.id in
    let name = c.args.old.name in
    let index = c.self.inside.index in
    let standing = stands_for_rows f c.self.invariant.sound in
    let stands = c.rename_by-other.ensures.stands t standing in
    let own = sym (c.rename_by-other.ensures.old t standing) ∙ ap Some (sym c.as_bytes-then-free.ensures.value) in
    let free = sym (ap is_some (c.id_of.ensures ∙ ap (id_answer index.names) c.as_bytes.ensures.value)) ∙ c.is_none-free.ensures ∙ ap not c.if-free.true in
    indexed_named c.self.inside.hashing f c.rename_by-other.new.self i name c.forget_name.new.self c.self.inside.counts c.self.inside.total
    (c.forget_name.ensures.hashing ∙ c.restore_name.ensures.hashing ∙ c.self.invariant.hashed) c.self.invariant.sound c.recall_invariant-2.ensures stands
    (named_free t i c.as_bytes-then-free.result.now name c.self.invariant.sound.lawful stands.lawful own index c.self.invariant.answers c.forget_name.new.self free
    (c.forget_name.ensures.gone ∙ ap (without_name c.as_bytes-then-free.result.now) (c.restore_name.ensures.answers ∙ ap (λ z. with_name z i (answers index)) c.requires.back)))
    c.self.invariant.counted c.self.invariant.summed

pub invariant_of-self-else-free : goal.invariant_of-self-else-free
invariant_of-self-else-free g c =
    let f = c.self.inside.forest in
    let t = rows_of f in
    let i = c.args.id in
    let name = c.args.old.name in
    let index = c.self.inside.index in
    let standing = stands_for_rows f c.self.invariant.sound in
    let stands = c.rename_by-other.ensures.stands t standing in
    let taken = sym (ap is_some (c.id_of.ensures ∙ ap (id_answer index.names) c.as_bytes.ensures.value)) ∙ c.is_none-free.ensures ∙ ap not c.if-free.false in
    indexed_named c.self.inside.hashing f c.rename_by-other.new.self i name index c.self.inside.counts c.self.inside.total c.self.invariant.hashed c.self.invariant.sound c.recall_invariant-2.ensures stands
    (named_own t i c.rename_by-other.result name c.self.invariant.sound.lawful stands.lawful (sym (c.rename_by-other.ensures.old t standing)) index c.self.invariant.answers taken)
    c.self.invariant.counted c.self.invariant.summed
