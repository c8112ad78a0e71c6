-- Facts about an error that the operator `?` returns to the caller.
use Rattle.std.proofs.Common.{◌≡◌, sym, subst, ◌∙◌}
use Rattle.std.specs.Prelude.{Result, Ok, Err, IfErr, IsErrAnd}
use Rattle.crush_edits.specs.declared.refusal.Refusal.{Refusal}
use Rattle.crush_edits.specs.declared.refusal.EditFault.{EditFault}
use Rattle.crush_edits.specs.declared.refusal.EditFault.TheVariants.{Refused, OutOfMemory}

-- a property of an error holds for the error that is passed on
pub passed_on : {X E : Type 0} (P : E → Type 0) (r : E) (x : Result X E) → IsErrAnd x (λ e. e ≡ r) → P r → IfErr x P
passed_on P r (Err e) h p = subst P (sym h) p
passed_on P r (Ok d) h p = elim h [ ]

-- a refusal becomes the fault of that refusal
pub same_refusal : {X : Type 0} (q r : Refusal) (x : Result X EditFault) → IsErrAnd x (λ e. e ≡ Refused q) → x ≡ Err (Refused r) → q ≡ r
same_refusal q r (Ok d) h is = elim h [ ]
same_refusal q r (Err e) h is = let one : e ≡ Refused r = cc in let other : Refused q ≡ Refused r = sym h ∙ one in cc

-- a fault for a refusal isn't OutOfMemory
pub no_want : {X : Type 0} (q : Refusal) (x : Result X EditFault) → IsErrAnd x (λ e. e ≡ Refused q) → x ≡ Err OutOfMemory → ⊥
no_want q (Ok d) h is = elim h [ ]
no_want q (Err e) h is = let one : e ≡ OutOfMemory = cc in let other : Refused q ≡ OutOfMemory = sym h ∙ one in cc

-- OutOfMemory isn't a refusal
pub no_refusal : {X : Type 0} (r : Refusal) (x : Result X EditFault) → IsErrAnd x (λ e. e ≡ OutOfMemory) → x ≡ Err (Refused r) → ⊥
no_refusal r (Ok d) h is = elim h [ ]
no_refusal r (Err e) h is = let one : e ≡ Refused r = cc in let other : OutOfMemory ≡ Refused r = sym h ∙ one in cc
