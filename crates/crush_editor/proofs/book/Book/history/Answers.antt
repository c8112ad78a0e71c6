use Rattle.std.proofs.Common.{rules}
use Rattle.crush_editor.proofs.book.Book.history.Goals as goal

pub returns : goal.returns
returns g c = search rules
