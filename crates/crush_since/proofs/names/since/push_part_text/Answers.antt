use Rattle.std.proofs.Common.{◌++◌, subst, sym, ◌∙◌}
use Rattle.std.specs.Option.{option_map}
use Rattle.std.proofs.lemmas.Result.{on_ok_weaker}
use Rattle.crush_model.specs.Stands.{Stands}
use Rattle.crush_since.specs.Since.{plain_map}
use Rattle.crush_since.specs.SinceNames.{since_names_part}
use Rattle.crush_since.proofs.names.since.push_part_text.Goals as goal

pub returns : goal.returns
returns g c = λ t u a b.
    let under = option_map (λ n. n.now) c.args.under in
    let old = c.in_ok-both.ensures.old in
    let new = c.in_ok-both.ensures.new in
    on_ok_weaker c.push_part.result (λ is. is ∙ (λ k. c.args.out.now.items ++ since_names_part under (plain_map ((old k).setting) t) (plain_map ((new k).setting) u)))
    (c.push_part.ensures t u (subst (λ m. Stands m.forest t) (sym old) a) (subst (λ m. Stands m.forest u) (sym new) b) (c.in_ok-both.ensures.pairs t u a b))
