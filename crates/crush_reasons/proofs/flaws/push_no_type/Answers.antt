use Rattle.std.proofs.Common.{◌++◌, List, ℕ, ap, codes, ◌∙◌}
use Rattle.std.proofs.lemmas.Result.{on_ok_weaker}
use Rattle.crush_reasons.specs.Shown.{told}
use Rattle.crush_reasons.proofs.Lines.{three_pushed, two_pushed}
use Rattle.crush_reasons.proofs.flaws.push_no_type.Goals as goal

pub returns : goal.returns
returns c =
    let old = c.args.text.now.items in
    let word = told c.args.word.now in
    let above = three_pushed old (codes "no type named ") word (codes " is declared above") _ _ _ c.in_ok-extend_from_slice.ensures.items c.in_ok-push_told.ensures c.in_ok-extend_from_slice-2.ensures.items in
    on_ok_weaker c.push_bytes.result (λ e. two_pushed old (codes "no type named " ++ word ++ codes " is declared above") c.args.hint.now _ _ above (e ∙ ap (λ (l : List ℕ). c.extend_from_slice-2.new.self.items ++ l) c.as_bytes.ensures.value)) c.push_bytes.ensures
