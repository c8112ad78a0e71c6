use Rattle.std.proofs.Common.{◌++◌, ap, arith, sym, ◌∙◌}
use Rattle.std.specs.Prelude.{codes, flat_map}
use Rattle.std.proofs.lemmas.List.{take_all}
use Rattle.std.proofs.lemmas.List.Folds.{flat_map-map}
use Rattle.crush_since.proofs.names.lines.push_stays.Goals as goal

pub returns : goal.returns
returns c =
    let lines = c.args.lines.now in
    c.loop-line.invariant
    ∙ ap (λ ls. c.args.text.now.items ++ flat_map (λ line. line.items ++ codes "\n") ls) (take_all c.loop-line.line-index lines (omega (arith, c.loop-line-test.false)))
    ∙ ap (λ bytes. c.args.text.now.items ++ bytes) (sym (flat_map-map (λ bytes. bytes ++ codes "\n") (λ line. line.items) lines))
