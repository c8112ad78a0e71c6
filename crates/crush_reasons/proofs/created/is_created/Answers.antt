use Rattle.std.proofs.Common.{ap, sym, ◌∙◌}
use Rattle.std.specs.List.{list_any}
use Rattle.std.specs.Prelude.{not}
use Rattle.std.proofs.lemmas.List.{drop_all}
use Rattle.crush_reasons.specs.Created.{ends_before}
use Rattle.crush_reasons.proofs.Creating.{any_here, any_later}
use Rattle.crush_reasons.proofs.created.is_created.Goals as goal

pub returns-then-ends_before : goal.returns-then-ends_before
returns-then-ends_before c = λ t st.
    let test = ends_before c.args.map.now.setting t c.args.pair.now in
    let here = any_here test c.args.pairs.now c.loop-other.other-index c.other-item.result c.loop-other-test.true c.other-item.is (sym (c.ends_before.ensures t st) ∙ c.if-ends_before.true) in
    sym (ap not (c.loop-other.invariant t st ∙ here))

pub loop-other-preserved : goal.loop-other-preserved
loop-other-preserved c = λ t st.
    let test = ends_before c.args.map.now.setting t c.args.pair.now in
    c.loop-other.invariant t st
    ∙ any_later test c.args.pairs.now c.loop-other.other-index c.other-item.result c.loop-other-test.true c.other-item.is (sym (c.ends_before.ensures t st) ∙ c.if-ends_before.false)

pub returns : goal.returns
returns c = λ t st.
    let test = ends_before c.args.map.now.setting t c.args.pair.now in
    sym (ap not (c.loop-other.invariant t st ∙ ap (list_any test) (drop_all c.loop-other.other-index c.args.pairs.now c.loop-other-test.false)))
