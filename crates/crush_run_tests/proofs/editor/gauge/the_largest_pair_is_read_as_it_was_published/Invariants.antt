use Rattle.crush_run_tests.proofs.editor.gauge.the_largest_pair_is_read_as_it_was_published.Given as goal

abbrev pub ghost-new : goal.ghost-new
ghost-new g a = a.weight

abbrev pub ghost-publish : goal.ghost-publish
ghost-publish g a = (a.changes, a.weight)
