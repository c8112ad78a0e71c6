use Rattle.std.proofs.Common.{ℕ, [], ◌∷◌, subst}
use Rattle.std.proofs.lemmas.Result.{err_from_is_err_and}
use Rattle.crush_units.specs.Writes.{AppendsLess}
use Rattle.crush_reasons.specs.Shown.{shown_byte}
use Rattle.crush_input.proofs.ShownBytes.{shown_stops}
use Rattle.crush_input.proofs.shown.put_shown.Goals as goal

-- the next byte was not written
pub returns-in_err-put : goal.returns-in_err-put
returns-in_err-put g c =
    let p = err_from_is_err_and c.from_residual.result c.from_residual.ensures.1 in
    let less = subst (λ (b : ℕ). AppendsLess (g.W.Write.contents c.loop-byte.out) (g.W.Write.contents c.put.new.out) (b ∷ [])) c.shown_byte.ensures c.in_err-put.ensures.writes in
    rw p.1 (shown_stops shown_byte _ _ _ c.args.name.now c.loop-byte.byte-index 0 c.loop-byte-test.true c.loop-byte.invariant less)
