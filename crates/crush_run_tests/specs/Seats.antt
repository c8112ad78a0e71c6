-- The seats of an editor in the form in which `close` requires them.
use Rattle.std.specs.Prelude.{ℕ, ◌≡◌, List, length}
use Rattle.crush_editor.specs.Seat.{SeatData, InOrder}

-- the list has n seats, in the order of their operators
pub record AreAll (n : ℕ) (seats : List SeatData) : Type 0 where
  pub count : length seats ≡ n
  pub order : InOrder seats
