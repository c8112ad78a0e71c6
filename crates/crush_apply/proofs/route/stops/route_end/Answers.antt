use Rattle.std.proofs.Common.{◌≡◌, ◌<◌, false, List, length, sym, subst, ap, ◌∙◌, arith}
use Rattle.std.specs.Prelude.{Some, is_some}
use Rattle.crush_model.specs.Table.{Row, is_named, id_named}
use Rattle.crush_model.specs.Stands.{Stands}
use Rattle.crush_edits.specs.Answer.{first_refusal}
use Rattle.crush_edits.specs.Located.{end_tests}
use Rattle.crush_apply.specs.declared.route.stops.Stop.{Stop}
use Rattle.crush_apply.specs.Stopped.{pair_name, stops_data}
use Rattle.crush_apply.proofs.Ends.{found, left_later, tests_here, ends_here, ends_nowhere}
use Rattle.crush_apply.proofs.Refused.{passed_on}
use Rattle.crush_apply.proofs.route.stops.route_end.Goals as goal

pub stop_name-requires : goal.stop_name-requires
stop_name-requires g c = subst (λ (x : Stop). x.pair < length c.args.at.now) (sym c.index-stops-k.is) (c.requires c.loop-k.k c.index-stops-k.result c.loop-k-test.true)

pub loop-k-preserved : goal.loop-k-preserved
loop-k-preserved g c = λ t st.
    let l = c.args.at.now in
    let x = c.index-stops-k.result in
    let named : is_named t (pair_name l x.pair) ≡ false = found t c.as_str.result.now (pair_name l x.pair) c.id_of.result false (c.as_str.ensures.value ∙ c.stop_name.ensures) (c.id_of.ensures t st) (sym (ap is_some c.in_default.is)) in
    left_later t l c.args.stops.now c.loop-k.k x c.loop-k-test.true c.index-stops-k.is named (c.loop-k.invariant t st)

pub returns-in-Some-clause-ends : goal.returns-in-Some-clause-ends
returns-in-Some-clause-ends g c = λ t st.
    let l = c.args.at.now in
    let x = c.index-stops-k.result in
    let named : id_named t (pair_name l x.pair) ≡ Some c.in-Some.id = ap (id_named t) (sym (c.as_str.ensures.value ∙ c.stop_name.ensures)) ∙ sym (c.id_of.ensures t st) ∙ c.in-Some.is in
    ends_here t l c.args.stops.now c.loop-k.k x c.in-Some.id c.loop-k-test.true c.index-stops-k.is named (c.loop-k.invariant t st) c.in_ok-bucket.bucket c.in_ok-bucket.ensures.bucket (c.in_ok-bucket.ensures.passes t st)

pub returns-in_err-bucket-clause-refused : goal.returns-in_err-bucket-clause-refused
returns-in_err-bucket-clause-refused g c =
    let l = c.args.at.now in
    let x = c.index-stops-k.result in
    passed_on (λ r. (t : List Row) → Stands c.args.hierarchy.now t → first_refusal (end_tests t (stops_data l c.args.stops.now)) ≡ Some r) _ _ c.from_residual.ensures.1
    (λ t st. let named : id_named t (pair_name l x.pair) ≡ Some c.in-Some.id = ap (id_named t) (sym (c.as_str.ensures.value ∙ c.stop_name.ensures)) ∙ sym (c.id_of.ensures t st) ∙ c.in-Some.is in
    ap first_refusal (tests_here t l c.args.stops.now c.loop-k.k x c.in-Some.id c.loop-k-test.true c.index-stops-k.is named (c.loop-k.invariant t st)) ∙ c.in_err-bucket.ensures.refused t st)

pub returns-clause-ends : goal.returns-clause-ends
returns-clause-ends g c = λ t st. ends_nowhere t c.args.at.now c.args.stops.now c.loop-k.k (omega (arith, c.loop-k-test.false, c.loop-k.auto.k-end)) (c.loop-k.invariant t st)
