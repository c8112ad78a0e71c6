-- Edits and batches, whose outcome doesn't depend on the number of earlier changes, and guarded batches, whose outcome does.
use Rattle.std.proofs.Common.{◌≡◌, ◌≢◌, ◌==◌, ℕ, List, Result, Ok, Err, true, false, refl, rules, tests}
use Rattle.std.specs.Prelude.{IfOk}
use Rattle.crush_edits.specs.declared.edit.Edit.{Edit}
use Rattle.crush_map.specs.MapData.{MapData}
use Rattle.crush_history.specs.declared.call.Call.{Call}
use Rattle.crush_history.specs.declared.call.Call.TheVariants.{Batch, Guarded}
use Rattle.crush_history.specs.declared.call.Reply.{Reply}
use Rattle.crush_history.specs.declared.call.Reply.TheVariants.{Stale}
use Rattle.crush_history.specs.Turns.{Makes}

-- if a call is made (`Makes`) after any number of changes, then it is made after n changes
pub made_behind : {E : Type 0} (n : ℕ) (old new : MapData) (c : Call) (r : Result Reply E) → IfOk r (λ reply. (k : ℕ) → Makes k old new c reply) → IfOk r (Makes n old new c)
made_behind n old new c (Ok reply) made = made n
made_behind n old new c (Err e) made = tt

-- a guarded batch that names another number of changes is stale
pub made_stale : (n seen : ℕ) (m : MapData) (es : List Edit) → seen ≢ n → Makes n m m (Guarded seen es) (Stale n)
made_stale n seen m es differ s t stands =
    let other : (seen == n) ≡ false = search (rules, tests) in
    rw other (refl, stands)

-- a guarded batch that names this number of changes has the outcome of the same batch without the guard
guarded_makes : (n seen : ℕ) (old new : MapData) (es : List Edit) (reply : Reply) → seen ≡ n → Makes n old new (Batch es) reply → Makes n old new (Guarded seen es) reply
guarded_makes n seen old new es reply is made s t stands =
    let same : (seen == n) ≡ true = search (rules, tests) in
    rw same (made s t stands)

pub made_guarded : {E : Type 0} (n seen : ℕ) (old new : MapData) (es : List Edit) (r : Result Reply E) → seen ≡ n → IfOk r (λ reply. (k : ℕ) → Makes k old new (Batch es) reply) → IfOk r (Makes n old new (Guarded seen es))
made_guarded n seen old new es (Ok reply) is made = guarded_makes n seen old new es reply is (made n)
made_guarded n seen old new es (Err e) is made = tt
