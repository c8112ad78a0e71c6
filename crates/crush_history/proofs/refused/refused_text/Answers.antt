use Rattle.std.proofs.Common.{◌+◌, ◌++◌, List, ℕ, ap, sym, ◌∙◌}
use Rattle.std.proofs.lemmas.List.{take_all}
use Rattle.crush_history.specs.HistoryText.{names_of}
use Rattle.crush_history.specs.Refused.{refused_line, refused_text}
use Rattle.crush_history.specs.Script.{scripts_data}
use Rattle.crush_history.proofs.RefusedLines.{refused-take, no_refused}
use Rattle.crush_history.proofs.refused.refused_text.Goals as goal

pub loop-place-init : goal.loop-place-init
loop-place-init c = c.new-text.ensures.items ∙ no_refused (names_of (scripts_data c.args.scripts.now))

pub loop-place-preserved : goal.loop-place-preserved
loop-place-preserved c =
    let names : List (List ℕ) = names_of (scripts_data c.args.scripts.now) in
    let e = c.index-entries-place.result in
    let line = ap (λ (name : List ℕ). refused_line (c.loop-place.place + 1) name e) c.operator_name-name.ensures in
    c.in_ok-push_refused.ensures ∙ (λ i. c.loop-place.invariant i ++ line i)
    ∙ sym (refused-take names c.args.entries.now c.loop-place.place e c.loop-place-test.true c.index-entries-place.is)

pub returns : goal.returns
returns c =
    let all = take_all c.loop-place.place c.args.entries.now c.loop-place-test.false in
    c.loop-place.invariant ∙ ap (λ xs. refused_text (names_of (scripts_data c.args.scripts.now)) 1 xs) all
