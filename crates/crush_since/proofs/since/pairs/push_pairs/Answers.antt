use Rattle.std.proofs.Common.{◌∙◌, ◌++◌, ap, arith, append-nil, sym}
use Rattle.std.specs.Prelude.{flat_map}
use Rattle.std.proofs.lemmas.List.{take_all}
use Rattle.crush_compare.specs.Comparison.{pair_entries}
use Rattle.crush_since.specs.PairLines.{pair_line}
use Rattle.crush_since.proofs.since.pairs.push_pairs.Goals as goal

pub loop-pair-init : goal.loop-pair-init
loop-pair-init g c = sym (append-nil _)

pub returns : goal.returns
returns g c =
    let both = c.args.both.now in
    c.loop-pair.invariant
    ∙ ap (λ xs. c.args.out.now.items ++ flat_map (λ x. pair_line both.old.map.now.setting both.new.map.now.setting (pair_entries both x)) xs) (take_all c.loop-pair.pair-index c.args.pairs.now (omega (arith, c.loop-pair-test.false)))
