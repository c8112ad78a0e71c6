use Rattle.std.proofs.Common.{◌≡◌, [], rules, sym, subst}
use Rattle.std.specs.Prelude.{All}
use Rattle.crush_gauge.specs.Held.{held}
use Rattle.crush_editor.specs.Book.{IsSameMap}
use Rattle.crush_editor.specs.Seat.{reads}
use Rattle.crush_editor.proofs.editor.Started+A.new.Goals as goal

pub invariant_of-result : goal.invariant_of-result
invariant_of-result g c = (
  search rules,
  search rules,
  c.in_ok-book.ensures.stands,
  subst (IsSameMap c.in_ok-book.book.map) (sym c.in_ok-book.ensures.opening) c.in_ok-book.ensures.map,
  search rules,
  search rules,
  subst (λ o. All (λ s. s ≡ held c.in-Ok.gauge.table.shared.table_id (reads o [])) c.in-Ok.readers.items) (sym c.in_ok-book.ensures.opening) c.in-Ok.ensures.readers,
)

pub returns-clause-operators : goal.returns-clause-operators
returns-clause-operators g c = search rules
