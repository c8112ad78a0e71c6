-- Says which calls the history of two operators has.
use Rattle.std.specs.Prelude.{ℕ, zero, suc, ◌≡◌, ◌++◌, List, []}
use Rattle.crush_history.specs.declared.call.Call.{Call}
use Rattle.crush_history.specs.History.{EntryData, of_operator}
use Rattle.crush_history.specs.Turns.{calls_of}
use Rattle.crush_editor.specs.Seat.{SeatData}

-- the calls that the operator with the number k has to make. For operator 0, these are the calls of the list `first`. For operator 1, these are the calls of the list `second`. Any other operator has no calls to make
abbrev pub calls_by : List Call → List Call → ℕ → List Call
calls_by first second zero = first
calls_by first second (suc zero) = second
calls_by first second (suc (suc k)) = []

-- EXACTLY THEIRS: the calls of operator 0 in the history h are exactly the list `first`, in order. The calls of operator 1 in h are exactly the list `second`, in order. No other operator has a call in h.
abbrev pub AreTheirs : List Call → List Call → List EntryData → Type 0
AreTheirs first second h = (k : ℕ) → calls_of (of_operator k h) ≡ calls_by first second k

-- a seat has made the calls `asked`: `old` is the seat before, and `new` is the seat after. The operator is unchanged. A seat has a slip for each answered call. The calls in the slips of `new` are the calls in the slips of `old`, followed by the calls `asked` in order.
pub record HasMade (old : SeatData) (asked : List Call) (new : SeatData) : Type 0 where
  pub operator : new.operator ≡ old.operator
  pub calls : calls_of new.slips ≡ calls_of old.slips ++ asked
