use Rattle.std.proofs.Common.{◌++◌, ap, sym, ◌∙◌}
use Rattle.std.proofs.lemmas.List.{append-nil, drop_all}
use Rattle.std.specs.Prelude.{flat_map}
use Rattle.crush_reasons.specs.Created.{location_hints, pair_hint}
use Rattle.crush_reasons.proofs.Creating.{text_more}
use Rattle.crush_reasons.proofs.created.push_location_hints.Goals as goal

pub loop-pair-preserved : goal.loop-pair-preserved
loop-pair-preserved c = λ t st.
    text_more (pair_hint c.args.map.now.setting t c.pairs-pairs.result.now) c.pairs-pairs.result.now c.loop-pair.pair-index c.pair-item.result c.args.text.now.items _ _
    c.loop-pair-test.true c.pair-item.is (c.loop-pair.invariant t st) (c.in_ok-push_pair_hint.ensures t st)

pub returns : goal.returns
returns c = λ t st.
    let s = c.args.map.now.setting in
    let old = c.args.text.now.items in
    let l = c.pairs-pairs.result.now in
    let all = c.loop-pair.invariant t st ∙ ap (λ ps. c.loop-pair.text.items ++ flat_map (pair_hint s t l) ps) (drop_all c.loop-pair.pair-index l c.loop-pair-test.false) ∙ append-nil c.loop-pair.text.items in
    sym all ∙ ap (λ ps. old ++ location_hints s t ps) c.pairs-pairs.ensures.value
