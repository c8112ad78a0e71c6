use Rattle.std.proofs.Common.{◌≡◌, ◌+◌, drop, ap, sym, ◌∙◌}
use Rattle.std.specs.Prelude.{bytes_eq}
use Rattle.std.specs.List.{list_any}
use Rattle.crush_edits.specs.declared.location.Pair.{Pair}
use Rattle.crush_apply.proofs.Twice.{twice_here, twice_later, later_pairs}
use Rattle.crush_apply.proofs.route.refusals.has_bucket_twice.Goals as goal

pub returns-then-names_bucket : goal.returns-then-names_bucket
returns-then-names_bucket c =
    let p = c.index-pairs-k.result in
    let requested : c.names_bucket.result ≡ list_any (λ (q : Pair). bytes_eq q.name p.name) (drop (c.loop-k.k + 1) c.args.pairs.now) = c.names_bucket.ensures ∙ ap (list_any (λ (q : Pair). bytes_eq q.name p.name)) (later_pairs c.args.pairs.now (c.loop-k.k + 1)) in
    sym (c.loop-k.invariant ∙ twice_here (λ (q : Pair). q.name) c.args.pairs.now c.loop-k.k p c.names_bucket.result c.loop-k-test.true c.index-pairs-k.is requested c.if-names_bucket.true)

pub loop-k-preserved : goal.loop-k-preserved
loop-k-preserved c =
    let p = c.index-pairs-k.result in
    let requested : c.names_bucket.result ≡ list_any (λ (q : Pair). bytes_eq q.name p.name) (drop (c.loop-k.k + 1) c.args.pairs.now) = c.names_bucket.ensures ∙ ap (list_any (λ (q : Pair). bytes_eq q.name p.name)) (later_pairs c.args.pairs.now (c.loop-k.k + 1)) in
    c.loop-k.invariant ∙ twice_later (λ (q : Pair). q.name) c.args.pairs.now c.loop-k.k p c.names_bucket.result c.loop-k-test.true c.index-pairs-k.is requested c.if-names_bucket.false
