use Rattle.std.proofs.Common.{◌++◌, ap, ◌∙◌}
use Rattle.crush_history.specs.HistoryText.{names_of}
use Rattle.crush_history.specs.Script.{scripts_data}
use Rattle.crush_since.specs.Stays.{line_texts, text_of_lines}
use Rattle.crush_input.specs.Lost.{conflict_notes, lost_data}
use Rattle.crush_input.specs.Notes.{created_lines, created_notes}
use Rattle.crush_run.proofs.outcome.end_notes_of.Goals as goal

pub returns : goal.returns
returns c = λ s o opening.
    let names = names_of (scripts_data c.args.completed.now.scripts.now) in
    let lost = lost_data c.args.completed.now.lost.now in
    let calls = c.in_ok-calls.ensures s o opening in
    let h = c.args.completed.now.entries.now in
    let told = created_notes c.args.mode s o names h ++ conflict_notes lost in
    let with_lost = c.in_ok-with_lost.ensures ∙ ap (λ l. l ++ conflict_notes lost) (c.as_slice-2.ensures.value ∙ calls) in
    record {
      calls = calls;
      refused = c.in_ok-refused.ensures s o opening ∙ ap (λ l. l ++ told) (c.as_slice.ensures.value ∙ calls);
      made = λ on. c.in_ok-made.ensures s o opening on ∙ ap (λ l. created_lines c.args.mode.explain s o names h ++ l) (c.as_slice-3.ensures.value ∙ with_lost);
      conflicts = c.in_ok-conflicts.ensures ∙ ap (λ l. lost.lines ++ l) (c.as_slice-4.ensures.value ∙ calls);
      whole = λ on. c.in_ok-whole.ensures on ∙ ap (λ l. l ++ text_of_lines (line_texts c.args.completed.now.plan.now.rest.items)) (c.as_slice-5.ensures.value ∙ calls);
    }
