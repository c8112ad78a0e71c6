use Rattle.std.proofs.Common.{Bor, ℕ, List, ◌++◌, ap, sym, ◌∙◌}
use Rattle.std.proofs.lemmas.Result.{on_ok_weaker}
use Rattle.std.specs.Option.{option_map}
use Rattle.std.specs.Prelude.{Some, codes}
use Rattle.crush_reasons.specs.Created.{hint_line}
use Rattle.crush_reasons.specs.Way.{asked_reason}
use Rattle.crush_reasons.proofs.Lines.{three_pushed}
use Rattle.crush_reasons.proofs.created.push_hint.Goals as goal

pub returns : goal.returns
returns c =
    let old = c.args.text.now.items in
    let name = c.args.name.now in
    on_ok_weaker c.push_bytes.result (λ e.
    three_pushed old (codes "  ") (asked_reason name (codes " was created") (Some c.in-Some.near.now)) (codes "\n") _ _ _ c.in_ok-extend_from_slice.ensures.items c.in_ok-push_asked.ensures e
    ∙ ap (λ near. old ++ hint_line name (option_map (λ (near : Bor (List ℕ)). near.now) near)) (sym c.in-Some.is)) c.push_bytes.ensures
