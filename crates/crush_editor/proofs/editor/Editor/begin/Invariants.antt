use Rattle.std.proofs.Common.{◌≡◌, ℕ, ◌<◌, ◌+◌, [], length, vec_len, slice_index_or}
use Rattle.std.specs.List.{All}
use Rattle.std.specs.Vec.Iter.{into_iter_items, into_iter_len}
use Rattle.crush_gauge.specs.Held.{held}
use Rattle.crush_editor.specs.Seat.{seat_data, reads}
use Rattle.crush_editor.proofs.editor.Editor.begin.Given as goal

abbrev pub invariant-loop-reader : goal.invariant-loop-reader
invariant-loop-reader g l =
    (into_iter_len l.reader-iterator + vec_len l.seats ≡ l.initial.all.parts)
    × (into_iter_len l.reader-iterator ≡ length (into_iter_items l.reader-iterator))
    × (l.all.parts ≡ into_iter_len l.reader-iterator)
    × (l.all.amount ≡ 0)
    × (l.initial.all.parts ≡ g.N.Ledger.parts)
    × All (λ r. r ≡ held g.N.Desk.gauge (reads g.N.Desk.opening [])) (into_iter_items l.reader-iterator)
    × ((k : ℕ) → k < vec_len l.seats → slice_index_or l.seats.items k (seat_data 0 [] []) ≡ seat_data k [] [])
