use Rattle.std.proofs.Common.{◌++◌, ap, arith, sym, append-nil, ◌∙◌}
use Rattle.std.specs.Prelude.{flat_map}
use Rattle.std.proofs.lemmas.List.{take_all}
use Rattle.crush_items.proofs.WalkLaws.{one_more, more_steps}
use Rattle.crush_compare.specs.Comparison.{pair_items}
use Rattle.crush_since.specs.Stays.{line_texts, stay_pair}
use Rattle.crush_since.proofs.names.staying.push_pairs.Goals as goal

pub loop-pair-init : goal.loop-pair-init
loop-pair-init g c = sym (append-nil _)

pub returns : goal.returns
returns g c =
    let both = c.args.both.now in
    c.loop-pair.invariant
    ∙ ap (λ ps. line_texts c.args.lines.now.items ++ flat_map (λ p. stay_pair both.old.map.now.setting both.new.map.now.setting (pair_items both p)) ps)
    (take_all c.loop-pair.pair-index c.args.pairs.now (omega (arith, c.loop-pair-test.false)))
