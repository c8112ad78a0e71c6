use Rattle.std.proofs.Common.{◌≡◌, ◌∙◌, [], rules, sym, subst}
use Rattle.std.specs.Prelude.{All, None}
use Rattle.crush_gauge.specs.Held.{held}
use Rattle.crush_editor.specs.Book.{IsParted}
use Rattle.crush_editor.specs.Seat.{reads}
use Rattle.crush_editor.proofs.Commits.{parted_same, parted_stands}
use Rattle.crush_editor.proofs.editor.Started+A+WithoutSnapshot.without_opening.Goals as goal

pub invariant_of-result : goal.invariant_of-result
invariant_of-result g c =
    let b = c.without_opening-book.ensures in
    let parted : IsParted None c.without_opening-book.result.map c.without_opening-book.result.opening = b.map ∙ sym b.opening in (
      search rules,
      b.history,
      parted_stands None _ _ parted,
      parted_same None _ _ parted,
      search rules,
      search rules,
      subst (λ o. All (λ s. s ≡ held c.in-Ok.gauge.table.shared.table_id (reads o [])) c.in-Ok.readers.items) (sym b.opening) c.in-Ok.ensures.readers,
    )

pub returns-clause-operators : goal.returns-clause-operators
returns-clause-operators g c = search rules
