use Rattle.crush_editor.proofs.book.Book+A.into_opening.Goals as goal

pub returns : goal.returns
returns g c = rw (← c.self.view_is) c.self.invariant.opening
