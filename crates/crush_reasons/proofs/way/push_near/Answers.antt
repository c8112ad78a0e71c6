use Rattle.std.proofs.Common.{Bor, ℕ, List, [], ◌++◌, ap, sym, ◌∙◌}
use Rattle.std.proofs.lemmas.Result.{on_ok_weaker}
use Rattle.std.specs.Option.{option_map}
use Rattle.crush_reasons.specs.Way.{near_asked}
use Rattle.crush_reasons.proofs.way.push_near.Goals as goal

pub returns : goal.returns
returns c =
    let old = c.args.text.now.items in
    on_ok_weaker c.push_all.result (λ e. e ∙ (λ i. old ++ (c.as_slice.ensures i ++ (c.as_bytes.ensures.value i ++ (c.as_slice-2.ensures i ++ [])))) ∙ ap (λ asked. old ++ near_asked (option_map (λ (near : Bor (List ℕ)). near.now) asked)) (sym c.in-Some.is)) c.push_all.ensures
