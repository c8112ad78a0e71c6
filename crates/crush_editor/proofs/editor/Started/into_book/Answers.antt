use Rattle.std.proofs.Common.{rules}
use Rattle.crush_editor.proofs.editor.Started.into_book.Goals as goal

pub returns-clause-map : goal.returns-clause-map
returns-clause-map g c = rw (← c.self.view_is) c.self.invariant.3

pub returns-clause-stands : goal.returns-clause-stands
returns-clause-stands g c = rw (← c.self.view_is) c.self.invariant.2

pub returns-clause-history : goal.returns-clause-history
returns-clause-history g c = search rules
