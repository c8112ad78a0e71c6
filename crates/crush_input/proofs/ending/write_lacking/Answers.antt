use Rattle.std.proofs.Common.{List, ℕ, ◌++◌, Option, Result, Ok, Err}
use Rattle.std.proofs.lemmas.List.{append-nil}
use Rattle.std.specs.Io.KnownBytes.{Appends}
use Rattle.std.proofs.lemmas.Result.{err_from_is_err_and}
use Rattle.crush_units.specs.Writes.{Writes}
use Rattle.crush_units.proofs.Appending.{appends_both, less_of_both, then_less}
use Rattle.crush_input.proofs.ending.write_lacking.Goals as goal

-- if the text x was written, then the result of writing y after it is the result of writing x followed by y
then_writes : {X E : Type 0} (r : Result X E) (a b c : Option (List ℕ)) (x y : List ℕ) → Appends a b x → Writes r b c y → Writes r a c (x ++ y)
then_writes (Ok v) a b c x y first second = appends_both a b c x y first second
then_writes (Err e) a b c x y first second = then_less a b c x y first second

-- only a proper prefix of the words before the name was written
pub returns-in_err-put_all : goal.returns-in_err-put_all
returns-in_err-put_all g c =
    let p = err_from_is_err_and c.from_residual.result c.from_residual.ensures.1 in
    let w = rw c.as_slice.ensures at c.in_err-put_all.ensures.writes in
    let less = simp append-nil at w in
    rw p.1 (less_of_both _ _ _ _ (less_of_both _ _ _ _ less))

-- only a proper prefix of the name was written
pub returns-in_err-put_shown : goal.returns-in_err-put_shown
returns-in_err-put_shown g c =
    let p = err_from_is_err_and c.from_residual-in_err-put_shown.result c.from_residual-in_err-put_shown.ensures.1 in
    let w = rw c.as_slice.ensures at c.in_ok-put_all.ensures.writes in
    let head = simp append-nil at w in
    let less = rw c.as_bytes.ensures.value at c.in_err-put_shown.ensures in
    rw p.1 (less_of_both _ _ _ _ (then_less _ _ _ _ _ head less))

pub returns : goal.returns
returns g c =
    let w = rw c.as_slice.ensures at c.in_ok-put_all.ensures.writes in
    let head = simp append-nil at w in
    let shown = rw c.as_bytes.ensures.value at c.in_ok-put_shown.ensures in
    then_writes c.put.result _ _ _ _ _ (appends_both _ _ _ _ _ head shown) c.put.ensures.writes
