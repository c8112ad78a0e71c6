-- The classes of a list in which equal names are next to each other. Each class comes once.
use Rattle.std.specs.Prelude.{List, [], ◌∷◌, if◌then◌else◌, bytes_eq}
use Rattle.crush_since.specs.Collected.{ClassData, together}

-- puts a class before a list of classes. If the first class of the list has the same name, the two entries are merged into one
abbrev pub with_first : ClassData → List ClassData → List ClassData
with_first x [] = x ∷ []
with_first x (y ∷ ys) = if bytes_eq y.name x.name then together x y ∷ ys else x ∷ y ∷ ys

-- the classes of a list in which equal names are next to each other. Each class comes once, with the sums of its amounts
abbrev pub grouped : List ClassData → List ClassData
grouped [] = []
grouped (x ∷ xs) = with_first x (grouped xs)
