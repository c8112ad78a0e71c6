use Rattle.std.proofs.Common.{refl, subst, rules}
use Rattle.std.specs.Prelude.{Some}
use Rattle.crush_model.specs.Forest.{IsSound}
use Rattle.crush_editor.proofs.Commits.{copied, kept_new, parted_stands}
use Rattle.crush_editor.proofs.book.Book+A.new.Goals as goal

pub invariant_of-result : goal.invariant_of-result
invariant_of-result g c =
    kept_new _ c.args.map _ _ _ (subst IsSound c.forest.ensures c.recall_invariant.ensures) (copied c.args.map c.in-Ok.copy c.in-Ok.ensures.setting c.in-Ok.ensures.same c.in-Ok.ensures.stands) c.new.ensures.items c.requires

pub returns-clause-stands : goal.returns-clause-stands
returns-clause-stands g c = rw c.requires (parted_stands (Some c.args.map) _ _ (copied c.args.map c.in-Ok.copy c.in-Ok.ensures.setting c.in-Ok.ensures.same c.in-Ok.ensures.stands))

pub returns-clause-opening : goal.returns-clause-opening
returns-clause-opening g c = rw c.requires refl

pub returns-clause-map : goal.returns-clause-map
returns-clause-map g c = search rules
