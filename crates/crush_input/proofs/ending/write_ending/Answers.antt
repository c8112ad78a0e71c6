use Rattle.std.proofs.Common.{List, ℕ, ◌++◌, Option, Result, Ok, Err}
use Rattle.std.specs.Io.KnownBytes.{Appends}
use Rattle.std.proofs.lemmas.Result.{err_from_is_err_and}
use Rattle.crush_units.specs.Writes.{Writes}
use Rattle.crush_units.proofs.Appending.{appends_both, less_of_both, then_less}
use Rattle.crush_input.proofs.ending.write_ending.Goals as goal

-- if the text x was written, then the result of writing y after it is the result of writing x followed by y
then_writes : {X E : Type 0} (r : Result X E) (a b c : Option (List ℕ)) (x y : List ℕ) → Appends a b x → Writes r b c y → Writes r a c (x ++ y)
then_writes (Ok v) a b c x y first second = appends_both a b c x y first second
then_writes (Err e) a b c x y first second = then_less a b c x y first second

-- only a proper prefix of the line was written
pub returns-in_err-write_lines : goal.returns-in_err-write_lines
returns-in_err-write_lines g c =
    let p = err_from_is_err_and c.from_residual.result c.from_residual.ensures.1 in
    rw p.1 (less_of_both _ _ _ _ c.in_err-write_lines.ensures)

pub returns : goal.returns
returns g c = then_writes c.put.result _ _ _ _ _ c.in_ok-write_lines.ensures c.put.ensures.writes
