use Rattle.std.proofs.Common.{sym, subst}
use Rattle.crush_model.specs.Forest.{IsSound, rows_of}
use Rattle.crush_model.proofs.Stands.{stands_for_rows}
use Rattle.crush_print.proofs.BelowLaws.{each_below, few_below, no_kids}
use Rattle.crush_print.proofs.ClassLaws.{each_light, each_weighed, kids_are_weighed}
use Rattle.crush_print.proofs.part.nodes_in.Goals as goal

pub returns-in-Some-clause-few : goal.returns-in-Some-clause-few
returns-in-Some-clause-few g c = few_below c.args.map.now.forest c.args.bucket _ (subst IsSound c.forest.ensures c.recall_invariant.ensures) c.in-Some.ensures.items

pub returns-in-Some-clause-steps : goal.returns-in-Some-clause-steps
returns-in-Some-clause-steps g c = λ t stands. each_below c.args.map.now.forest t c.args.bucket c.in-Some.items.now stands c.in-Some.ensures.items

pub returns-in-Some-clause-weights : goal.returns-in-Some-clause-weights
returns-in-Some-clause-weights g c = λ t k stands.
    let f = c.args.map.now.forest in
    let sound : IsSound f = subst IsSound c.forest.ensures c.recall_invariant.ensures in
    each_weighed t k _ c.in-Some.items.now (each_below f t c.args.bucket c.in-Some.items.now stands c.in-Some.ensures.items) (kids_are_weighed f t k c.args.bucket c.in-Some.items.now sound stands c.in-Some.ensures.items)

pub returns-in-Some-clause-light : goal.returns-in-Some-clause-light
returns-in-Some-clause-light g c = λ k.
    let f = c.args.map.now.forest in
    let sound : IsSound f = subst IsSound c.forest.ensures c.recall_invariant.ensures in
    each_light (rows_of f) k c.in-Some.items.now (kids_are_weighed f (rows_of f) k c.args.bucket c.in-Some.items.now sound (stands_for_rows f sound) c.in-Some.ensures.items)

pub returns-in-None-clause-ids : goal.returns-in-None-clause-ids
returns-in-None-clause-ids g c = λ t stands. sym (no_kids t t c.args.bucket stands.lawful.parents (sym (c.in-None.ensures.there t stands)))
