use Rattle.std.proofs.Common.{subst, IfOk}
use Rattle.crush_editor.specs.Book.{MakesAll}
use Rattle.crush_two_operators.proofs.Order.{of_each_ok, theirs_of_two}
use Rattle.crush_two_operators.proofs.at_once.edit_at_once.Goals as goal

-- the opening map of the editor is the map that was passed to the function
pub returns-clause-all : goal.returns-clause-all
returns-clause-all g c =
    let o = c.in_ok-started.ensures.opening in
    subst (λ m. IfOk c.work_together.result (λ r. MakesAll m r.0.map r.0.history.items)) o c.work_together.ensures.all

pub returns-clause-calls : goal.returns-clause-calls
returns-clause-calls g c = of_each_ok c.work_together.result _ _ (λ r s. theirs_of_two _ _ _ _ _ s.0 s.1 s.2 s.3 s.4) c.work_together.ensures.seats
