use Rattle.std.proofs.Common.{◌∙◌, ap, arith, sym}
use Rattle.std.specs.Prelude.{flat_map}
use Rattle.std.proofs.lemmas.List.{take_all}
use Rattle.crush_compare.specs.Comparison.{pair_entries}
use Rattle.crush_since.specs.Changes.{has_some}
use Rattle.crush_since.specs.PairLines.{pair_line}
use Rattle.crush_since.proofs.LineLaws.{read_again, some_here}
use Rattle.crush_since.proofs.since.pairs.has_difference.Goals as goal

pub returns-then-differs : goal.returns-then-differs
returns-then-differs g c =
    let both = c.args.both.now in
    some_here (λ x. pair_line both.old.map.now.setting both.new.map.now.setting (pair_entries both x)) c.args.pairs.now c.loop-pair.pair-index _ c.differs.result c.loop-pair-test.true (read_again c.args.pairs.now c.loop-pair.pair-index _ c.loop-pair-test.true) c.differs.ensures c.if-differs.true

pub returns : goal.returns
returns g c =
    let both = c.args.both.now in
    sym c.loop-pair.invariant
    ∙ ap (λ xs. has_some (flat_map (λ x. pair_line both.old.map.now.setting both.new.map.now.setting (pair_entries both x)) xs)) (take_all c.loop-pair.pair-index c.args.pairs.now (omega (arith, c.loop-pair-test.false)))
