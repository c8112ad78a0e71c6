use Rattle.std.proofs.Common.{rules}
use Rattle.crush_editor.proofs.book.Book.into_closed.Goals as goal

pub returns-clause-opening : goal.returns-clause-opening
returns-clause-opening g c = rw (← c.self.view_is) c.self.invariant.opening

pub returns-clause-map : goal.returns-clause-map
returns-clause-map g c = search rules

pub returns-clause-all : goal.returns-clause-all
returns-clause-all g c = rw (← c.self.view_is) c.self.invariant.all

pub returns-clause-operators : goal.returns-clause-operators
returns-clause-operators g c = rw (← c.self.view_is) c.self.invariant.operators
