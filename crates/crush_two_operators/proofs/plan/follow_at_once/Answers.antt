use Rattle.std.proofs.Common.{subst}
use Rattle.crush_editor.specs.Book.{MakesAll}
use Rattle.crush_two_operators.proofs.Following.{followed_by_two}
use Rattle.crush_two_operators.proofs.plan.follow_at_once.Goals as goal

-- the opening map of the editor is the map that was passed to the function
pub returns-clause-all : goal.returns-clause-all
returns-clause-all g c =
    let o = c.in_ok-started.ensures.opening in
    subst (λ m. MakesAll m c.in_ok-closed.closed.map c.in_ok-closed.closed.history.items) o c.in_ok-closed.ensures.all

pub returns-clause-plan : goal.returns-clause-plan
returns-clause-plan g c = let s = c.in_ok-closed.ensures.seats in followed_by_two _ _ _ _ s.0 s.1 s.2 s.3 s.4
