use Rattle.std.proofs.Common.{◌≡◌, ◌∙◌, ℕ, ap, sym, refl, arith, vec_len, slice_index_or, None, Some, Option, drop, false}
use Rattle.std.specs.Option.{is_some}
use Rattle.std.proofs.lemmas.List.{get_or_default}
use borrow.Author.Count.{below_more}
use Rattle.crush_run.specs.declared.worker.Finished.{Finished}
use Rattle.crush_run.proofs.Lists.{dropped}
use Rattle.crush_run.proofs.at_once.gather.Goals as goal

none_of : {A : Type 0} (o : Option A) → false ≡ is_some o → o ≡ None
none_of None e = refl
none_of (Some x) e = absurd (cc)

pub loop-done-preserved : goal.loop-done-preserved
loop-done-preserved g c =
    let i = c.loop-done.invariant in
    let s = c.in-Some.ensures.steps in
    let i1 = i.1 in let s1 = s.1 in
    let p = c.in-Ok.ensures in let pl = p.len in
    let n = vec_len c.loop-done.seats in
    let fs = c.args.finished.items in
    let x = c.in-Some.done in
    let at = dropped _ _ _ x x n i.0 s.0 (omega arith) in (
      at.0 ∙ ap (λ (m : ℕ). drop m fs) (sym pl),
      omega arith,
      λ k d e less.
          let here : x ≡ slice_index_or fs n e = at.1 ∙ get_or_default fs n x e (omega arith) in
          below_more (λ (j : ℕ). (slice_index_or c.push.new.self.items j d ≡ (slice_index_or fs j e).seat) × ((slice_index_or fs j e).fault ≡ None)) n
          (λ j low. let was = i.2 j d e low in (p.by_index.0 j d low ∙ was.0, was.1))
          (p.by_index.1 d refl ∙ ap (λ (f : Finished g.row.N.Denot). f.seat) here, ap (λ (f : Finished g.row.N.Denot). f.fault) (sym here) ∙ none_of x.fault c.if-is_some.ensures)
          k (omega arith),
    )
