use Rattle.crush_editor.proofs.book.Book+A.opening.Goals as goal

pub returns : goal.returns
returns g c = rw (← c.self.view_is) c.self.invariant.opening
