use Rattle.std.proofs.Common.{◌++◌, ap, append_assoc, ◌∙◌}
use Rattle.crush_history.specs.HistoryText.{names_of}
use Rattle.crush_history.specs.Script.{scripts_data}
use Rattle.crush_input.specs.Lost.{conflict_notes, lost_data}
use Rattle.crush_input.specs.Notes.{created_notes}
use Rattle.crush_input.proofs.lost.notes_with_made_and_lost.Goals as goal

pub returns : goal.returns
returns c = λ s t kept.
    let created = created_notes c.args.mode s t (names_of (scripts_data c.args.history.scripts.now)) c.args.history.entries.now in
    let lost = conflict_notes (lost_data c.args.lost.now) in
    c.in_ok-push_conflicts.ensures
    ∙ ap (λ l. l ++ lost) (c.in_ok-push_created.ensures s t kept)
    ∙ append_assoc _ created lost
    ∙ ap (λ l. l ++ (created ++ lost)) (c.in_ok-extend_from_slice.ensures.items ∙ ap (λ l. l ++ c.args.notes.now) c.new-text.ensures.items)
