-- Tests whether two optional values are equal: both are missing, or both are present and equal.
use Rattle.std.specs.Prelude.{ℕ, ◌==◌, Bool, List, Option, bytes_eq}
use Rattle.std.specs.Option.{option_eq}

abbrev pub same_option : Option ℕ → Option ℕ → Bool
same_option a b = option_eq (λ x y. x == y) a b

abbrev pub same_text : Option (List ℕ) → Option (List ℕ) → Bool
same_text a b = option_eq bytes_eq a b
