use Rattle.std.proofs.lemmas.Result.{err_from_is_err_and}
use Rattle.crush_units.proofs.Appending.{less_of_both}
use Rattle.crush_input.proofs.Outcomes.{then_writes}
use Rattle.crush_input.proofs.verb_maps.write_refusal.Goals as goal

-- only a proper prefix of the line was written
pub returns-in_err-write_line : goal.returns-in_err-write_line
returns-in_err-write_line g c =
    let p = err_from_is_err_and c.from_residual.result c.from_residual.ensures.1 in
    rw p.1 (less_of_both _ _ _ _ c.in_err-write_line.ensures)

pub returns : goal.returns
returns g c = then_writes c.put.result _ _ _ _ _ c.in_ok-write_line.ensures (rw c.as_slice.ensures.value at c.put.ensures.writes)
