use Rattle.std.proofs.Common.{◌≡◌, ◌<◌, true, false, length, sym, subst, ap, ◌∙◌}
use Rattle.std.specs.Prelude.{Some}
use Rattle.crush_model.specs.Table.{is_named}
use Rattle.crush_apply.specs.declared.route.stops.Stop.{Stop}
use Rattle.crush_apply.specs.Stopped.{pair_name}
use Rattle.crush_apply.proofs.Ends.{found}
use Rattle.crush_apply.proofs.FirstNames.{end_here, end_later, end_nowhere}
use Rattle.crush_apply.proofs.route.stops.first_there.Goals as goal

pub stop_name-name-requires : goal.stop_name-name-requires
stop_name-name-requires g c = subst (λ (x : Stop). x.pair < length c.args.at.now) (sym c.stop-item.is) (c.requires c.loop-stop.stop-index c.stop-item.result c.loop-stop-test.true)

pub returns-then-is_some : goal.returns-then-is_some
returns-then-is_some g c = λ t st.
    let l = c.args.at.now in
    let x = c.stop-item.result in
    let named : is_named t (pair_name l x.pair) ≡ true = found t c.as_str.result.now (pair_name l x.pair) c.id_of.result true (c.as_str.ensures.value ∙ c.stop_name-name.ensures) (c.id_of.ensures t st) (sym c.if-is_some.true ∙ c.is_some.ensures) in
    ap Some c.stop_name-name.ensures ∙ sym (c.loop-stop.invariant t st ∙ end_here t l c.args.stops.now c.loop-stop.stop-index x c.loop-stop-test.true c.stop-item.is named)

pub loop-stop-preserved : goal.loop-stop-preserved
loop-stop-preserved g c = λ t st.
    let l = c.args.at.now in
    let x = c.stop-item.result in
    let named : is_named t (pair_name l x.pair) ≡ false = found t c.as_str.result.now (pair_name l x.pair) c.id_of.result false (c.as_str.ensures.value ∙ c.stop_name-name.ensures) (c.id_of.ensures t st) (sym c.if-is_some.false ∙ c.is_some.ensures) in
    c.loop-stop.invariant t st ∙ end_later t l c.args.stops.now c.loop-stop.stop-index x c.loop-stop-test.true c.stop-item.is named

pub returns : goal.returns
returns g c = λ t st. sym (c.loop-stop.invariant t st ∙ end_nowhere t c.args.at.now c.args.stops.now c.loop-stop.stop-index c.loop-stop-test.false)
