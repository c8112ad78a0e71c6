use Rattle.std.proofs.Common.{refl, subst}
use Rattle.std.specs.Prelude.{None}
use Rattle.crush_model.specs.Forest.{IsSound}
use Rattle.crush_editor.proofs.Commits.{kept_new}
use Rattle.crush_editor.proofs.book.Book+A+WithoutSnapshot.without_opening.Goals as goal

pub invariant_of-result : goal.invariant_of-result
invariant_of-result g c = kept_new None c.args.map _ _ _ (subst IsSound c.forest.ensures c.recall_invariant.ensures) refl c.new.ensures.items c.requires

pub returns-clause-opening : goal.returns-clause-opening
returns-clause-opening g c = rw c.requires refl
