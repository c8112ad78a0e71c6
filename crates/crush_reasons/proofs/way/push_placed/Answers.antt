use Rattle.std.proofs.Common.{Bor, ℕ, List, [], ◌++◌, ap, sym, ◌∙◌}
use Rattle.std.proofs.lemmas.Result.{on_ok_weaker}
use Rattle.std.specs.Option.{option_map}
use Rattle.crush_reasons.specs.Way.{placed_said}
use Rattle.crush_reasons.proofs.way.push_placed.Goals as goal

pub returns : goal.returns
returns c =
    let old = c.args.text.now.items in
    let name = c.args.name.now in
    on_ok_weaker c.push_all-2.result (λ e. e ∙ (λ i. old ++ (name ++ (c.as_slice-2.ensures i ++ (c.as_bytes.ensures.value i ++ (c.as_slice-3.ensures i ++ []))))) ∙ ap (λ holder. old ++ (name ++ placed_said (option_map (λ (holder : Bor (List ℕ)). holder.now) holder))) (sym c.in-Some.is)) c.push_all-2.ensures
