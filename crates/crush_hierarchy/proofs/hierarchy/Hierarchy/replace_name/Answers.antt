use Rattle.std.proofs.Common.{◌≡◌, true, ap, sym, subst, ◌∙◌}
use Rattle.crush_model.specs.Columns.{set_name}
use Rattle.crush_model.specs.Forest.{rows_of}
use Rattle.crush_model.specs.Lawful.{Lawful}
use Rattle.crush_model.specs.Stands.{Stands}
use Rattle.crush_model.specs.Table.{is_there}
use Rattle.crush_model.proofs.Stands.{stands_for_rows}
use Rattle.crush_nodes.specs.Room.{room}
use Rattle.crush_tree.specs.Required.{CanRename}
use Rattle.crush_index.specs.IndexAnswers.{IsIndexOf}
use Rattle.crush_index.specs.PlacesAnswers.{place_answer}
use Rattle.crush_index.proofs.TableMoved.{same_index}
use Rattle.crush_hierarchy.specs.Indexed.{IsIndexed}
use Rattle.crush_hierarchy.proofs.GuideLemmas.{guides_alike, guides_named}
use Rattle.crush_hierarchy.proofs.IndexLemmas.{guided}
use Rattle.crush_hierarchy.proofs.RenameLemmas.{can_come_back, indexed_named, named_so}
use Rattle.crush_hierarchy.proofs.hierarchy.Hierarchy.replace_name.Goals as goal

pub rename_by-old-requires : goal.rename_by-old-requires
rename_by-old-requires g c = guided c.self.inside.forest c.self.inside.index c.places.result.now c.places.ensures c.self.invariant.answers (subst (λ z. CanRename c.args.id c.args.name z) (sym c.self.view_is) c.requires)

pub invariant_of-self : goal.invariant_of-self
invariant_of-self g c =
    let f = c.self.inside.forest in
    let t = rows_of f in
    let standing = stands_for_rows f c.self.invariant.sound in
    let stands = c.rename_by-old.ensures.stands t standing in
    let fits = subst (λ z. Lawful (set_name c.args.id z t)) (sym c.in_ok-copy.ensures) stands.lawful in
    indexed_named c.self.inside.hashing f c.rename_by-old.new.self c.args.id c.args.name c.tell_new_name.new.index c.self.inside.counts c.self.inside.total
    (c.in-Ok.ensures.hashing ∙ c.self.invariant.hashed) c.self.invariant.sound c.recall_invariant-2.ensures stands
    (subst (λ z. IsIndexOf (set_name c.args.id z t) c.tell_new_name.new.index) c.in_ok-copy.ensures
    (named_so t c.args.id c.rename_by-old.result c.in_ok-copy.copy c.self.invariant.sound.lawful fits (sym (c.rename_by-old.ensures.old t standing)) c.self.inside.index c.self.invariant.answers c.tell_new_name.new.index c.in-Ok.ensures.ok))
    c.self.invariant.counted c.self.invariant.summed

pub returns-in-Ok : goal.returns-in-Ok
returns-in-Ok g c =
    let f = c.self.inside.forest in
    let there = subst (λ z. is_there (rows_of z) c.args.id ≡ true) (sym c.self.view_is) c.requires.there in
    record {
      stands = λ t st. c.rename_by-old.ensures.stands t (subst (λ z. Stands z t) (sym c.self.view_is) st);
      rooms = λ p. c.rename_by-old.ensures.rooms p ∙ ap (λ z. room z p) c.self.view_is;
      can = record { can = can_come_back f c.rename_by-old.new.self c.args.id c.rename_by-old.result c.self.invariant.sound there c.rename_by-old.ensures.back; back = c.in-Ok.ensures.back };
      back = sym c.self.view_is ∙ c.rename_by-old.ensures.back;
      err = tt;
    }

pub rename_by-requires : goal.rename_by-requires
rename_by-requires g c =
    let f = c.self.inside.forest in
    let t = rows_of f in
    let there = subst (λ z. is_there (rows_of z) c.args.id ≡ true) (sym c.self.view_is) c.requires.there in
    record {
      guides =
          guides_alike (set_name c.args.id c.args.name t) c.rename_by-old.new.self (place_answer c.places-in-Err.result.now) (c.rename_by-old.ensures.stands t (stands_for_rows f c.self.invariant.sound))
          (guides_named t c.args.id c.args.name c.tell_new_name.new.index c.places-in-Err.result.now c.places-in-Err.ensures (same_index c.self.inside.index c.tell_new_name.new.index c.in-Err.ensures.err t c.self.invariant.answers));
      can = can_come_back f c.rename_by-old.new.self c.args.id c.rename_by-old.result c.self.invariant.sound there c.rename_by-old.ensures.back;
    }

pub invariant_of-self-in-Err : goal.invariant_of-self-in-Err
invariant_of-self-in-Err g c =
    let f = c.self.inside.forest in
    let same = c.rename_by.ensures.is ∙ sym c.rename_by-old.ensures.back in
    subst (λ z. IsIndexed z c.tell_new_name.new.index c.self.inside.counts c.self.inside.total c.self.inside.hashing) (sym same) (record {
      sound = c.self.invariant.sound;
      answers = same_index c.self.inside.index c.tell_new_name.new.index c.in-Err.ensures.err (rows_of f) c.self.invariant.answers;
      counted = c.self.invariant.counted;
      summed = c.self.invariant.summed;
      hashed = c.in-Err.ensures.hashing ∙ c.self.invariant.hashed;
    })

pub returns-in-Err : goal.returns-in-Err
returns-in-Err g c =
    let same = c.rename_by.ensures.is ∙ sym c.rename_by-old.ensures.back ∙ c.self.view_is in
    record {
      stands = tt;
      rooms = λ p. ap (λ z. room z p) same;
      can = tt;
      back = tt;
      err = same;
    }
