use Rattle.std.proofs.Common.{ap, arith}
use Rattle.crush_editor.specs.Seat.{SeatData}
use Rattle.crush_run_tests.proofs.editor.opened.Goals as goal

-- the returned seats are the seats that the editor's `open` returns
pub returns : goal.returns
returns g c =
    let v = c.in-Ok.opened.1.ok in let n = c.in-Ok.ensures.count in
    record {
      count = omega arith;
      order = λ k less. ap (λ (x : SeatData). x.operator) (c.in-Ok.ensures.seats k (omega arith));
    }
