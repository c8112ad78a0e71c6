-- The algorithms of buckets, and their words in a map's text.
use Rattle.std.specs.Prelude.{ℕ, Bool, ◌==◌, List, codes, bytes_eq, Option, Some, None, if◌then◌else◌}
use Rattle.crush_units.specs.declared.alg.Alg.{Alg}
use Rattle.crush_units.specs.declared.alg.Alg.TheVariants.{Straw, Straw2, List as Linked}

-- the word for an algorithm in a map's text
abbrev pub alg_text : Alg → List ℕ
alg_text Straw = codes "straw"
alg_text Straw2 = codes "straw2"
alg_text Linked = codes "list"

-- the algorithm that a word names, or none if the word isn't `straw`, `straw2` or `list`
abbrev pub alg_of_text : List ℕ → Option Alg
alg_of_text word =
    if bytes_eq word (codes "straw") then Some Straw
    else (if bytes_eq word (codes "straw2") then Some Straw2
    else (if bytes_eq word (codes "list") then Some Linked
    else None))

-- a number for each algorithm, with which algorithms can be compared and encoded
abbrev pub alg_number : Alg → ℕ
alg_number Straw = 0
alg_number Straw2 = 1
alg_number Linked = 2

-- whether two algorithms are the same
abbrev pub same_alg : Alg → Alg → Bool
same_alg a b = alg_number a == alg_number b
