-- What two maps say about each device class.
use Rattle.std.specs.Prelude.{ℕ, ◌+◌, List, [], ◌∷◌}
use Rattle.std.specs.Cmp.Lexicographic.{slice_cmp}
use Rattle.std.specs.Ordering.{nat_cmp}
use Rattle.std.specs.declared.cmp.Ordering.{Ordering}
use Rattle.std.specs.declared.cmp.Ordering.TheVariants.{Less, Equal, Greater}

-- the amounts of a class: the total weights of its devices in the old map and in the new map, the numbers of its devices in the two maps, and the number of rule steps that take the class
pub data Amount : Type 0 where
  old_weight : Amount
  new_weight : Amount
  old_devices : Amount
  new_devices : Amount
  takes : Amount

-- a class with its amounts
pub record ClassData : Type 0 where
  pub name : List ℕ
  pub amount : Amount → ℕ

-- merges two entries of the same class: the amounts are added
abbrev pub together : ClassData → ClassData → ClassData
together x y = record { name = y.name; amount = λ k. x.amount k + y.amount k }

-- inserts a class into a list in which the names ascend. If the list has the class, the amounts are added to it. Otherwise the class is inserted before the first class with a greater name
abbrev pub put_at : Ordering → ClassData → ClassData → List ClassData → List ClassData → List ClassData
put_at Less x y ys rest = x ∷ y ∷ ys
put_at Equal x y ys rest = together x y ∷ ys
put_at Greater x y ys rest = y ∷ rest

abbrev pub put_class : ClassData → List ClassData → List ClassData
put_class x [] = x ∷ []
put_class x (y ∷ ys) = put_at (slice_cmp nat_cmp x.name y.name) x y ys (put_class x ys)

-- CLASSES of a list. Each class comes once, with the sums of its amounts. The classes are in ascending order of their names
abbrev pub collected : List ClassData → List ClassData
collected [] = []
collected (x ∷ xs) = put_class x (collected xs)
