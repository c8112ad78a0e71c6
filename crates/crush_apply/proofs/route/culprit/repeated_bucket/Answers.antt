use Rattle.std.proofs.Common.{◌≡◌, ◌+◌, drop, ap, sym, ◌∙◌}
use Rattle.crush_edits.specs.Located.{names_it}
use Rattle.crush_edits.specs.declared.location.Pair.{Pair}
use Rattle.crush_apply.proofs.FirstNames.{name_here, name_later}
use Rattle.crush_apply.proofs.Twice.{later_pairs}
use Rattle.crush_apply.proofs.route.culprit.repeated_bucket.Goals as goal

pub returns-then-names_bucket : goal.returns-then-names_bucket
returns-then-names_bucket c =
    let p = c.index-pairs-k.result in
    let requested : c.names_bucket.result ≡ names_it (drop (c.loop-k.k + 1) c.args.pairs.now) p.name = c.names_bucket.ensures ∙ ap (λ x. names_it x p.name) (later_pairs c.args.pairs.now (c.loop-k.k + 1)) in
    sym (c.loop-k.invariant ∙ name_here (λ (q : Pair) x. names_it x q.name) (λ (q : Pair). q.name) c.args.pairs.now c.loop-k.k p c.loop-k-test.true c.index-pairs-k.is (sym requested ∙ c.if-names_bucket.true))

pub loop-k-preserved : goal.loop-k-preserved
loop-k-preserved c =
    let p = c.index-pairs-k.result in
    let requested : c.names_bucket.result ≡ names_it (drop (c.loop-k.k + 1) c.args.pairs.now) p.name = c.names_bucket.ensures ∙ ap (λ x. names_it x p.name) (later_pairs c.args.pairs.now (c.loop-k.k + 1)) in
    c.loop-k.invariant ∙ name_later (λ (q : Pair) x. names_it x q.name) (λ (q : Pair). q.name) c.args.pairs.now c.loop-k.k p c.loop-k-test.true c.index-pairs-k.is (sym requested ∙ c.if-names_bucket.false)
