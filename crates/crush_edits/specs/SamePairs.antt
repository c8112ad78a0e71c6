-- What `==` returns for two pairs, and for two locations.
use Rattle.std.specs.Prelude.{List, Bool}
use Rattle.std.specs.Cmp.Lexicographic.{pointwise}
use Rattle.crush_edits.specs.declared.location.Pair.{Pair}
use Rattle.crush_edits.specs.contracts.location.PairPartialEq.TheImpl as pair

-- whether the two pairs are equal
abbrev pub same_pair : Pair → Pair → Bool
same_pair = (pair.ghosts).eq

-- whether the two locations have the same pairs in the same order
abbrev pub same_pairs : List Pair → List Pair → Bool
same_pairs = pointwise same_pair
