-- Items that the hierarchy finds by their names.
use Rattle.std.proofs.Common.{◌≡◌, ℕ, true, List, ap, sym, subst, ◌∙◌}
use Rattle.std.specs.Prelude.{Some, IfSome}
use Rattle.crush_units.specs.declared.id.ItemId.{ItemId}
use Rattle.crush_model.specs.Table.{Row, id_named, is_there}
use Rattle.crush_model.specs.Forest.{ForestData, rows_of, IsSound}
use Rattle.crush_model.specs.Stands.{Stands}
use Rattle.crush_model.proofs.Stands.{stands_for_rows}
use Rattle.crush_edits.proofs.Routes.{named_there}

-- the table has the item that a name finds
pub there_by_name : (t : List Row) (n : List ℕ) (i : ItemId) → id_named t n ≡ Some i → is_there t i ≡ true
there_by_name t n i named = subst (λ o. IfSome o (λ j. is_there t j ≡ true)) named (named_there t n)

-- the same for the rows of a hierarchy, if the name finds the item in every table that the hierarchy represents
pub found_there : (f : ForestData) (n : List ℕ) (i j : ItemId) → IsSound f → ((t : List Row) → Stands f t → Some i ≡ id_named t n) → i ≡ j → is_there (rows_of f) j ≡ true
found_there f n i j sound named is = there_by_name (rows_of f) n j (sym (named (rows_of f) (stands_for_rows f sound)) ∙ ap Some is)
