-- Names of a lawful table, and rules that take a bucket.
use Rattle.std.proofs.Common.{◌≡◌, ◌||◌, ℕ, Bool, true, false, List, [], ◌∷◌, ap, map, refl, subst}
use Rattle.std.proofs.lemmas.List.Elements.{All-head, All-tail}
use Rattle.std.specs.List.{list_any}
use Rattle.std.specs.Option.{option_map}
use Rattle.std.specs.Prelude.{All, Option, None, Some, bytes_eq, if◌then◌else◌, option_and_then}
use Rattle.std.specs.Str.{IsUtf8}
use Rattle.crush_units.specs.declared.id.ItemId.{ItemId}
use Rattle.crush_units.specs.declared.id.ItemId.TheVariants.{Device, Bucket}
use Rattle.crush_units.proofs.Names.{are_name_bytes_utf8}
use Rattle.crush_model.specs.Lawful.{IsRow}
use Rattle.crush_model.specs.Table.{Row, id_named, is_there, row_named}
use Rattle.crush_model.proofs.Tested.{bytes_equal}
use Rattle.crush_edits.specs.Stops.{bucket_named, number_of}
use Rattle.crush_apply.proofs.Found.{there_by_name}

-- if bytes aren't UTF-8, then no item has them as its name
pub no_name : (t : List Row) (n : List ℕ) → All IsRow t → (IsUtf8 n → ⊥) → id_named t n ≡ None
no_name [] n rows bad = refl
no_name (r ∷ t) n rows bad = by_name (no_name t n (All-tail IsRow r t rows) bad) (bytes_eq r.name n) refl where
  by_name : id_named t n ≡ None → (b : Bool) → bytes_eq r.name n ≡ b → option_map (λ (x : Row). x.id) (if b then Some r else row_named t n) ≡ None
  by_name others true is = absurd (bad (subst IsUtf8 (bytes_equal r.name n is) (are_name_bytes_utf8 r.name (All-head IsRow r t rows).name.allowed)))
  by_name others false is = others

-- whether an element of a list passes a test doesn't depend on where the elements are converted to plain data, before the test or in it
pub any_seen : {X Y : Type 0} (test : Y → Bool) (seen : X → Y) (xs : List X) → list_any (λ x. test (seen x)) xs ≡ list_any test (map seen xs)
any_seen test seen [] = refl
any_seen test seen (x ∷ xs) = ap (λ (b : Bool). test (seen x) || b) (any_seen test seen xs)

-- if a bucket has the name, then the bucket is in the table
bucket_is : (o : Option ItemId) (b : ℕ) → option_and_then number_of o ≡ Some b → o ≡ Some (Bucket b)
bucket_is None b e = absurd cc
bucket_is (Some (Device d)) b e = absurd cc
bucket_is (Some (Bucket c)) b e = cc

pub bucket_there : (t : List Row) (n : List ℕ) (b : ℕ) → bucket_named t n ≡ Some b → is_there t (Bucket b) ≡ true
bucket_there t n b e = there_by_name t n (Bucket b) (bucket_is (id_named t n) b e)
