use Rattle.crush_run_tests.proofs.editor.gauge.a_note_is_learned_by_a_seat_of_either_kind.Given as goal

abbrev pub ghost-new : goal.ghost-new
ghost-new g a = a.weight

abbrev pub ghost-publish : goal.ghost-publish
ghost-publish g a = (a.changes, a.weight)
