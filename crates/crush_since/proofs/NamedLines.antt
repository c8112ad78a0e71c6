-- Lemmas about a line that is built by appending its parts one after the other.
use Rattle.std.proofs.Common.{◌≡◌, ℕ, List, [], ◌∷◌, refl}
use Rattle.crush_since.specs.ItemParts.{behind}
use Rattle.crush_since.specs.Stays.{stay_line, stay_text_line}

pub line_of_parts : (name : List ℕ) (ps : List (List ℕ)) → stay_text_line name (behind ps) ≡ stay_line name ps
line_of_parts name [] = refl
line_of_parts name (p ∷ rest) = refl
