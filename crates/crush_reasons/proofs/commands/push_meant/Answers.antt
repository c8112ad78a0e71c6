use Rattle.std.proofs.Common.{Bor, ℕ, List, [], ◌++◌, ap, sym, ◌∙◌}
use Rattle.std.proofs.lemmas.Result.{on_ok_weaker}
use Rattle.std.specs.Option.{option_map}
use Rattle.crush_reasons.specs.Commands.{meant_text}
use Rattle.crush_reasons.proofs.commands.push_meant.Goals as goal

pub returns-in-Some : goal.returns-in-Some
unfolding meant_text
returns-in-Some c =
    let old = c.args.text.now.items in
    on_ok_weaker c.push_all.result (λ e. e ∙ (λ i. old ++ (c.as_slice.ensures i ++ (c.as_bytes.ensures.value i ++ (c.as_slice-in-Some.ensures i ++ [])))) ∙ ap (λ command. old ++ meant_text (option_map (λ (near : Bor (List ℕ)). near.now) command)) (sym c.in-Some.is)) c.push_all.ensures
