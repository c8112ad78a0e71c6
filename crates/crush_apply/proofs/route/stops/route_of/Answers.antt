use Rattle.std.proofs.Common.{◌≡◌, ◌+◌, ◌<◌, ◌≤◌, length, ap, sym, ◌∙◌, subst, arith}
use Rattle.std.specs.Prelude.{All}
use Rattle.crush_edits.specs.Setting.{kind_number}
use Rattle.crush_apply.specs.declared.route.stops.Stop.{Stop}
use Rattle.crush_apply.specs.Stopped.{IsPairOf, put_stop}
use Rattle.crush_apply.proofs.Stopped.{Left, left_known, left_unknown, put_pairs}
use Rattle.crush_apply.proofs.route.stops.route_of.Goals as goal
use Rattle.crush_apply.proofs.route.stops.route_of.Goals.{in-Some, in_default}

pub loop-index-preserved : goal.loop-index-preserved
loop-index-preserved c =
    let s = c.args.setting.now in
    let l = c.pairs-pairs.result.now in
    let k = c.loop-index.index in
    let inside : k < length l = c.loop-index-test.true in
    let requested : c.kind_number.result ≡ kind_number s c.index-pairs-index.result.kind = c.kind_number.ensures ∙ ap (kind_number s) c.as_bytes.ensures.value in
    let before : length c.loop-index.stops.items ≤ k = c.loop-index.invariant.few in
    elim c.match-kind_number.branch [
      | in-Some w ↦
          let x : Stop = record { kind = w.in-Some.kind; pair = k } in
          let put : c.match-kind_number.stops.items ≡ put_stop x c.loop-index.stops.items = ap (λ v. v.items) w.stops-is ∙ w.put_stop.ensures.put in
          let long : length c.match-kind_number.stops.items ≡ length c.loop-index.stops.items + 1 = ap (λ v. length v.items) w.stops-is ∙ w.put_stop.ensures.len in
          record {
            left = subst (Left s l (k + 1)) (sym put) (left_known s l k w.in-Some.kind c.index-pairs-index.result c.loop-index.stops.items inside (sym requested ∙ w.in-Some.is) c.index-pairs-index.is c.loop-index.invariant.left);
            pairs = subst (All (IsPairOf l)) (sym put) (put_pairs l x c.loop-index.stops.items inside c.loop-index.invariant.pairs);
            few = omega (arith, long, before);
          }
      | in_default w ↦
          let same : length c.match-kind_number.stops.items ≡ length c.loop-index.stops.items = ap (λ v. length v.items) w.stops-is in
          record {
            left = subst (λ xs. Left s l (k + 1) xs) (sym (ap (λ v. v.items) w.stops-is)) (left_unknown s l k c.index-pairs-index.result c.loop-index.stops.items inside (sym requested ∙ w.in_default.is) c.index-pairs-index.is c.loop-index.invariant.left);
            pairs = subst (All (IsPairOf l)) (sym (ap (λ v. v.items) w.stops-is)) c.loop-index.invariant.pairs;
            few = omega (arith, same, before);
          }
    ]
