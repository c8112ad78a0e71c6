use Rattle.std.proofs.Common.{◌≡◌, ◌≤◌, sym, subst, None, arith}
use Rattle.crush_compare.specs.Pairs.{taken}
use Rattle.crush_compare.proofs.Merging.{moved_on, least_before, least_after, stays_within}
use Rattle.crush_compare.proofs.by_id.pairs_by_key.Goals as goal
use Rattle.crush_compare.proofs.by_id.pairs_by_key.Goals.{then-before-old, else-before-old+then-after-new}

pub loop-before-preserved : goal.loop-before-preserved
loop-before-preserved c =
    let x = c.place_at.ensures in let y = c.place_at-in-loop-before.ensures in let h = c.loop-before.invariant in
    let some : c.place_at.result ≡ None → c.place_at-in-loop-before.result ≡ None → ⊥ = λ no_x no_y.
    elim c.if-before-old.branch [
      | then-before-old w ↦ omega (arith, w.if-before-old.true, x.none no_x)
      | else-before-old+then-after-new w ↦ omega (arith, w.if-after-new.true, y.none no_y)
    ] in
    record {
      paired = λ old new. moved_on _ _ c.loop-before.pairs.items _ c.loop-before.before c.loop-before.after _ _ c.place_at.result c.place_at-in-loop-before.result _ _ (record { first = x.first; none = x.none }) (record { first = y.first; none = y.none }) some
          c.least_pair-next.ensures c.behind-before.ensures c.behind-after.ensures c.positions.ensures c.in_ok-push.ensures.items (h.paired old new);
      old_within = stays_within _ _ _ _ _ (x.within h.old_within) (subst (λ p. taken p.before ≤ taken c.place_at.result) (sym c.least_pair-next.ensures) (least_before c.place_at.result c.place_at-in-loop-before.result)) c.behind-before.ensures;
      new_within = stays_within _ _ _ _ _ (y.within h.new_within) (subst (λ p. taken p.after ≤ taken c.place_at-in-loop-before.result) (sym c.least_pair-next.ensures) (least_after c.place_at.result c.place_at-in-loop-before.result)) c.behind-after.ensures;
    }
