use Rattle.std.proofs.Common.{◌+◌, ◌++◌, List, ℕ, ap, sym, ◌∙◌}
use Rattle.std.proofs.lemmas.List.{take_all}
use Rattle.crush_history.specs.HistoryText.{entries_text, line_text, names_of}
use Rattle.crush_history.specs.Script.{scripts_data}
use Rattle.crush_history.proofs.EntryLines.{lines-take, no_lines}
use Rattle.crush_history.proofs.history.history_text.Goals as goal

pub loop-place-init : goal.loop-place-init
loop-place-init c = c.new-text.ensures.bytes ∙ no_lines (names_of (scripts_data c.args.scripts.now))

pub loop-place-preserved : goal.loop-place-preserved
loop-place-preserved c =
    let names : List (List ℕ) = names_of (scripts_data c.args.scripts.now) in
    let e = c.index-entries-place.result in
    let line = ap (λ (name : List ℕ). line_text (c.loop-place.place + 1) name e.call e.reply) c.operator_name-name.ensures in
    c.in_ok-push_line.ensures ∙ (λ i. c.loop-place.invariant i ++ line i)
    ∙ sym (lines-take names c.args.entries.now c.loop-place.place e c.loop-place-test.true c.index-entries-place.is)

pub returns : goal.returns
returns c =
    let all = take_all c.loop-place.place c.args.entries.now c.loop-place-test.false in
    (λ i. (c.into_bytes.ensures.value i).items) ∙ c.loop-place.invariant ∙ ap (λ xs. entries_text (names_of (scripts_data c.args.scripts.now)) 1 xs) all
