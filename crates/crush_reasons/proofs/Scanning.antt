-- The lines about written weights, for a position that moves on by one word.
use Rattle.std.proofs.Common.{◌≡◌, ℕ, Bool, true, false, List, [], ◌∷◌, ◌++◌, refl, ap, sym, ◌∙◌, append_assoc}
use Rattle.std.specs.Prelude.{◌&&◌, bytes_eq, codes, if◌then◌else◌}
use Rattle.crush_units.specs.Words.{Word, texts}
use Rattle.crush_model.specs.Table.{Row}
use Rattle.crush_reasons.specs.Written.{IsNextWord, is_inside, item_line, item_lines}

-- the line for the item that begins at the first of four words, followed by the lines for the words after the first
pub lines_next : (t : List Row) (inside : Bool) (item name key w : List ℕ) (old new : List Word) → IsNextWord w old new
    → item_lines inside t (item ∷ name ∷ key ∷ texts old)
    ≡ (if inside && bytes_eq item (codes "item") then item_line t (name ∷ key ∷ w ∷ []) else []) ++ item_lines (is_inside inside item) t (name ∷ key ∷ w ∷ texts new)
unfolding item_lines
lines_next t inside item name key w old new is = ap (λ ws. item_lines inside t (item ∷ name ∷ key ∷ texts ws)) is.1

-- a choice between a list and the same list is this list
either_way : (b : Bool) (l : List ℕ) → (if b then l else l) ≡ l
either_way true l = refl
either_way false l = refl

-- the last three words of a text have no line
pub no_lines : (t : List Row) (inside : Bool) (item name key : List ℕ) (old : List Word) → old ≡ [] → item_lines inside t (item ∷ name ∷ key ∷ texts old) ≡ []
unfolding item_lines
no_lines t inside item name key old none =
    let one = is_inside inside item in
    let two = is_inside one name in
    ap (λ ws. item_lines inside t (item ∷ name ∷ key ∷ texts ws)) none
    ∙ ap (λ l. l ++ item_lines one t (name ∷ key ∷ [])) (either_way (inside && bytes_eq item (codes "item")) [])
    ∙ ap (λ l. l ++ item_lines two t (key ∷ [])) (either_way (one && bytes_eq name (codes "item")) [])
    ∙ ap (λ l. l ++ []) (either_way (two && bytes_eq key (codes "item")) [])

-- three empty words before a text have no line
pub empty_first : (t : List Row) (ws : List (List ℕ)) → item_lines false t ([] ∷ [] ∷ [] ∷ ws) ≡ item_lines false t ws
unfolding item_lines
empty_first t ws = refl

-- a line that was appended, followed by the lines that are left
pub then_left : (old new line rest whole : List ℕ) → new ≡ old ++ line → whole ≡ line ++ rest → new ++ rest ≡ old ++ whole
then_left old new line rest whole put all = ap (λ l. l ++ rest) put ∙ append_assoc old line rest ∙ ap (λ l. old ++ l) (sym all)
