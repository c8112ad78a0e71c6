use Rattle.std.proofs.Common.{◌+◌, ◌++◌, List, ℕ, ap, sym, ◌∙◌}
use Rattle.std.proofs.lemmas.List.{take_all}
use Rattle.crush_history.specs.HistoryText.{names_of}
use Rattle.crush_history.specs.Script.{scripts_data}
use Rattle.crush_reasons.specs.Made.{made_line, made_text}
use Rattle.crush_reasons.proofs.MadeLines.{made-take, no_made}
use Rattle.crush_reasons.proofs.made.made_text.Goals as goal

pub loop-place-init : goal.loop-place-init
loop-place-init c = c.new-text.ensures.items ∙ no_made (names_of (scripts_data c.args.scripts.now))

pub loop-place-preserved : goal.loop-place-preserved
loop-place-preserved c =
    let names : List (List ℕ) = names_of (scripts_data c.args.scripts.now) in
    let e = c.index-entries-place.result in
    let line = ap (λ (name : List ℕ). made_line (c.loop-place.place + 1) name e) c.operator_name-name.ensures in
    c.in_ok-push_made.ensures ∙ (λ i. c.loop-place.invariant i ++ line i)
    ∙ sym (made-take names c.args.entries.now c.loop-place.place e c.loop-place-test.true c.index-entries-place.is)

pub returns : goal.returns
returns c =
    let all = take_all c.loop-place.place c.args.entries.now c.loop-place-test.false in
    c.loop-place.invariant ∙ ap (λ xs. made_text (names_of (scripts_data c.args.scripts.now)) 1 xs) all
