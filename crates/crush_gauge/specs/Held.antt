-- How contracts describe a seat: to which gauge it belongs, and its view. A gauge is one 64-bit word of memory, shared by threads. A seat is the value with which one thread uses this word. The view says which kind of seat it is, and what the seat has seen.
use Rattle.atomic_table.specs.Seated.{TableId}
use Rattle.crush_gauge.specs.declared.view.View.{View}
use Rattle.crush_gauge.specs.Rule.{copied}

-- a seat as contracts see it: the identity of its gauge's `Table`, and its view. A seat is the value with which one thread uses the word of a gauge. This word is in a `Table` of the crate `atomic_table`
pub record Held (O E : Type 0) : Type 0 where
  pub table : TableId
  pub view : View O E

module _ {O E : Type 0} where
  -- a seat with the view v, as contracts see it. A seat is the value with which one thread uses the word of a gauge. This seat belongs to the gauge whose `Table` (of the crate `atomic_table`, with the gauge's word) has the identity z
  abbrev pub held : TableId → View O E → Held O E
  held z v = record { table = z; view = v }

  -- the note of the seat h, which says which history h has seen. (A seat is the value with which one thread uses the word of a gauge.) The note belongs to the gauge of h, and has the opening and the history that h has seen
  abbrev pub copy_of : Held O E → Held O E
  copy_of h = held h.table (copied h.view)
