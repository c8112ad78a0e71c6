-- What `==` returns for the edits of two batches.
use Rattle.std.specs.Prelude.{List, Bool}
use Rattle.std.specs.Cmp.{IsEquivalence}
use Rattle.std.specs.Cmp.Lexicographic.{pointwise, lists_equiv}
use Rattle.crush_edits.specs.declared.edit.Edit.{Edit}
use Rattle.crush_edits.specs.SameEdit.{same_edit, same_edit_equiv}

-- whether the two batches have the same edits in the same order
abbrev pub same_edits : List Edit → List Edit → Bool
same_edits = pointwise same_edit

-- the relation `same_edits` is an equivalence relation
pub same_edits_equiv : IsEquivalence same_edits
same_edits_equiv = lists_equiv same_edit_equiv
