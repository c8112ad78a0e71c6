use Rattle.crush_editor.proofs.book.Book.commit_copied.Given as goal

abbrev pub ghost-publish : goal.ghost-publish
ghost-publish g a = a.joining.now
