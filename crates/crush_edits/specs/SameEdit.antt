-- What `==` returns for two edits.
use Rattle.std.specs.Prelude.{Bool}
use Rattle.std.specs.Cmp.{IsEquivalence}
use Rattle.crush_edits.specs.declared.edit.Edit.{Edit}
use Rattle.crush_edits.specs.contracts.edit.EditPartialEq.TheImpl as edit
use Rattle.crush_edits.specs.contracts.edit.EditEq.TheImpl.Laws as derived

-- whether the two edits are equal
abbrev pub same_edit : Edit → Edit → Bool
same_edit = (edit.ghosts).eq

-- the test same_edit is an equivalence relation
pub same_edit_equiv : IsEquivalence same_edit
same_edit_equiv = derived.laws-law
