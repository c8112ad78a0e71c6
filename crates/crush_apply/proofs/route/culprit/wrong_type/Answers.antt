use Rattle.std.proofs.Common.{◌≡◌, ◌+◌, drop, ap, sym, ◌∙◌}
use Rattle.crush_edits.specs.declared.location.Pair.{Pair}
use Rattle.crush_apply.specs.Culprit.{is_wrong_type}
use Rattle.crush_apply.proofs.FirstNames.{name_here, name_later}
use Rattle.crush_apply.proofs.Twice.{later_pairs}
use Rattle.crush_apply.proofs.route.culprit.wrong_type.Goals as goal

pub returns-then-is_wrong_type : goal.returns-then-is_wrong_type
returns-then-is_wrong_type c =
    let p = c.index-pairs-k.result in
    let requested : c.is_wrong_type.result ≡ is_wrong_type c.args.setting.now p (drop (c.loop-k.k + 1) c.args.pairs.now) = c.is_wrong_type.ensures ∙ ap (is_wrong_type c.args.setting.now p) (later_pairs c.args.pairs.now (c.loop-k.k + 1)) in
    sym (c.loop-k.invariant ∙ name_here (is_wrong_type c.args.setting.now) (λ (q : Pair). q.kind) c.args.pairs.now c.loop-k.k p c.loop-k-test.true c.index-pairs-k.is (sym requested ∙ c.if-is_wrong_type.true))

pub loop-k-preserved : goal.loop-k-preserved
loop-k-preserved c =
    let p = c.index-pairs-k.result in
    let requested : c.is_wrong_type.result ≡ is_wrong_type c.args.setting.now p (drop (c.loop-k.k + 1) c.args.pairs.now) = c.is_wrong_type.ensures ∙ ap (is_wrong_type c.args.setting.now p) (later_pairs c.args.pairs.now (c.loop-k.k + 1)) in
    c.loop-k.invariant ∙ name_later (is_wrong_type c.args.setting.now) (λ (q : Pair). q.kind) c.args.pairs.now c.loop-k.k p c.loop-k-test.true c.index-pairs-k.is (sym requested ∙ c.if-is_wrong_type.false)
