-- Properties of a result that follow from one or two other properties of it.
use Rattle.std.proofs.Common.{◌++◌, ℕ, List, Option, Result, Ok, Err}
use Rattle.std.specs.Prelude.{IfErr, IfOk}
use Rattle.std.specs.Io.KnownBytes.{Appends}
use Rattle.crush_units.specs.Writes.{Writes}
use Rattle.crush_units.proofs.Appending.{appends_both, then_less}

-- a property of the value of an Ok, which follows from one or two other properties of this value
pub when_ok : {X E : Type 0} (P Q : X → Type 0) (r : Result X E) → ((x : X) → P x → Q x) → IfOk r P → IfOk r Q
when_ok P Q (Ok x) then_is p = then_is x p
when_ok P Q (Err e) then_is p = tt

pub when_both : {X E : Type 0} (P S Q : X → Type 0) (r : Result X E) → ((x : X) → P x → S x → Q x) → IfOk r P → IfOk r S → IfOk r Q
when_both P S Q (Ok x) then_is p s = then_is x p s
when_both P S Q (Err e) then_is p s = tt

-- a property of an error, which follows from one or two other properties of this error
pub err_as : {X E : Type 0} (P Q : E → Type 0) (r : Result X E) → ((e : E) → P e → Q e) → IfErr r P → IfErr r Q
err_as P Q (Ok x) then_is p = tt
err_as P Q (Err e) then_is p = then_is e p

pub err_both : {X E : Type 0} (P S Q : E → Type 0) (r : Result X E) → ((e : E) → P e → S e → Q e) → IfErr r P → IfErr r S → IfErr r Q
err_both P S Q (Ok x) then_is p s = tt
err_both P S Q (Err e) then_is p s = then_is e p s

-- if the text x was written, then the result of writing y after it is the result of writing x followed by y
pub then_writes : {X E : Type 0} (r : Result X E) (a b c : Option (List ℕ)) (x y : List ℕ) → Appends a b x → Writes r b c y → Writes r a c (x ++ y)
then_writes (Ok v) a b c x y first second = appends_both a b c x y first second
then_writes (Err e) a b c x y first second = then_less a b c x y first second
