-- Lemmas about the loops that collect the rows of a part of the tree, and the proof that no text of a part is empty.
use Rattle.std.proofs.Common.{◌≡◌, ℕ, ◌+◌, ◌<◌, Bool, true, false, List, [], ◌∷◌, ◌++◌, length, map, ap, sym, ◌∙◌, refl, arith, append_assoc, append-nil}
use Rattle.std.specs.Prelude.{Option, None, Some, codes, if◌then◌else◌, nat_lt}
use Rattle.std.proofs.lemmas.List.{length-append, map-append}
use Rattle.crush_units.specs.declared.id.ItemId.{ItemId}
use Rattle.crush_compare.specs.declared.comparison.Comparison.{Comparison}
use Rattle.crush_print.specs.declared.part.TreePart.{TreePart}
use Rattle.crush_print.specs.TreeText.{at_left}
use Rattle.crush_since.specs.ChangePart.{AllChangesAreAPart, changes_part_text, closed_by, down_to, in_part, is_closed, is_own_row, lines_behind, part_rows, rows_at, rows_below}
use Rattle.crush_since.specs.Changes.{ChangeData}
use Rattle.crush_since.specs.ChangeText.{change_line, changes_text, heading, rows_text, side_by_side, widths_of}
use Rattle.crush_since.specs.PartWalk.{reach, row_at, row_reached, rows_from, rows_reached}
use Rattle.crush_since.specs.SeenChange.{row_change}
use Rattle.crush_since.specs.Since.{PlainMap}
use Rattle.crush_since.specs.declared.changes.part.Reached.{Reached}
use Rattle.crush_since.specs.declared.changes.part.Reached.TheVariants.{Before, Within, After}
use Rattle.crush_since.specs.declared.changes.rows.TreeRow.{TreeRow}
use Rattle.crush_since.specs.declared.changes.widths.ChangeWidths.{ChangeWidths}

-- ONE ROW MORE is visited by the walk
pub one_reached : (i : ItemId) (reached : Reached) (x : ChangeData) (rest : List ChangeData) → rows_from i reached (x ∷ rest) ≡ row_reached (reach i reached x) x ++ rows_from i (reach i reached x) rest
one_reached i Before x rest = by_own (is_own_row i x) where
  by_own : (z : Bool) → (if z then in_part x.depth x ∷ rows_below x.depth rest else rows_at i rest) ≡ row_reached (if z then Within x.depth else Before) x ++ rows_from i (if z then Within x.depth else Before) rest
  by_own true = refl
  by_own false = refl
one_reached i (Within top) x rest = by_depth (nat_lt top x.depth) where
  by_depth : (z : Bool) → (if z then in_part top x ∷ rows_below top rest else []) ≡ row_reached (if z then Within top else After) x ++ rows_from i (if z then Within top else After) rest
  by_depth true = refl
  by_depth false = refl
one_reached i After x rest = refl

reached_seen : {A B : Type 0} (maps : Comparison A B) (now : Reached) (r : TreeRow) → row_reached now (row_change maps r) ≡ map (row_change maps) (rows_reached now r)
reached_seen maps Before r = refl
reached_seen maps (Within top) r = refl
reached_seen maps After r = refl

pub row_kept : {A B : Type 0} (maps : Comparison A B) (i : ItemId) (reached now : Reached) (r : TreeRow) (old new : List TreeRow) (rest : List ChangeData) → now ≡ reach i reached (row_change maps r) → new ≡ old ++ rows_reached now r
    → map (row_change maps) old ++ rows_from i reached (row_change maps r ∷ rest) ≡ map (row_change maps) new ++ rows_from i now rest
row_kept maps i reached now r old new rest is pushed =
    let x : ChangeData = row_change maps r in
    let before : List ChangeData = map (row_change maps) old in
    let own : List ChangeData = map (row_change maps) (rows_reached now r) in
    ap (λ (l : List ChangeData). before ++ l) (one_reached i reached x rest ∙ ap (λ n. row_reached n x ++ rows_from i n rest) (sym is) ∙ ap (λ (l : List ChangeData). l ++ rows_from i now rest) (reached_seen maps now r))
    ∙ sym (append_assoc before own (rows_from i now rest))
    ∙ ap (λ (l : List ChangeData). l ++ rows_from i now rest) (sym (map-append (row_change maps) old (rows_reached now r)) ∙ ap (map (row_change maps)) (sym pushed))

-- ONE ROW MORE is visited by the loop that keeps the rows down to a type
pub closed_row : (kind : ℕ) (closed : Option ℕ) (x : ChangeData) (rest : List ChangeData) → is_closed closed x.depth ≡ true → down_to kind closed (x ∷ rest) ≡ down_to kind closed rest
closed_row kind closed x rest is = ap (λ z. if z then down_to kind closed rest else x ∷ down_to kind (closed_by kind x) rest) is

pub open_row : {A B : Type 0} (maps : Comparison A B) (kind : ℕ) (closed now : Option ℕ) (r : TreeRow) (old new : List TreeRow) (rest : List ChangeData) → is_closed closed (row_change maps r).depth ≡ false → now ≡ closed_by kind (row_change maps r) → new ≡ old ++ row_at r.id r r.depth ∷ []
    → map (row_change maps) old ++ down_to kind closed (row_change maps r ∷ rest) ≡ map (row_change maps) new ++ down_to kind now rest
open_row maps kind closed now r old new rest kept_row is pushed =
    let x : ChangeData = row_change maps r in
    let before : List ChangeData = map (row_change maps) old in
    ap (λ (l : List ChangeData). before ++ l) (ap (λ z. if z then down_to kind closed rest else x ∷ down_to kind (closed_by kind x) rest) kept_row ∙ ap (λ n. x ∷ down_to kind n rest) (sym is))
    ∙ sym (append_assoc before (x ∷ []) (down_to kind now rest))
    ∙ ap (λ (l : List ChangeData). l ++ down_to kind now rest) (sym (map-append (row_change maps) old (row_at r.id r r.depth ∷ [])) ∙ ap (map (row_change maps)) (sym pushed))

-- THE WHOLE TREE is the part that has no top item and no type
pub all_changes : AllChangesAreAPart
unfolding changes_part_text part_rows changes_text
all_changes old new = refl

-- NO TEXT IS EMPTY, because it has the headings
line_is_some : (a : List ℕ) → 0 < length (a ++ codes "\n")
line_is_some a = let more : length (a ++ codes "\n") ≡ length a + 1 = length-append a (codes "\n") in omega (arith, more)

pub heading_is_some : (w : ChangeWidths) → 0 < length (heading w)
unfolding heading
heading_is_some w = line_is_some (at_left w.id (codes "ID") ++ codes "  " ++ at_left w.class (codes "CLASS") ++ codes "  " ++ side_by_side (at_left w.was (codes "WAS")) (at_left w.weight (codes "WEIGHT")) ++ codes "  " ++ codes "TYPE NAME")

pub rows_are_some : (a b : List ℕ) → 0 < length a → 0 < length (a ++ b)
rows_are_some a b some = omega (arith, some, length-append a b)

pub part_text_is_some : (part : TreePart) (old new : PlainMap) → 0 < length (changes_part_text part old new)
unfolding changes_part_text rows_text
part_text_is_some part old new =
    rows_are_some _ (lines_behind part.under old new) (rows_are_some (heading (widths_of (part_rows part old new))) _ (heading_is_some (widths_of (part_rows part old new))))

-- at the end no row of the part has still to be visited
pub nothing_to_come : (i : ItemId) (reached : Reached) (rows : List ChangeData) → rows ≡ rows ++ rows_from i reached []
nothing_to_come i Before rows = sym (append-nil rows)
nothing_to_come i (Within top) rows = sym (append-nil rows)
nothing_to_come i After rows = sym (append-nil rows)
