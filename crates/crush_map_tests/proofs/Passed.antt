-- Lemmas about what is known after a test of the code was passed.
use Rattle.std.proofs.Common.{◌≡◌, ℕ, Bool, true, false, not, refl, arith}
use Rattle.std.specs.Prelude.{Option, Some, None, ◌==◌, is_some}
use Rattle.std.proofs.lemmas.Bool.Decides.{eqb_tells}
use Rattle.crush_units.specs.declared.id.ItemId.TheVariants.{Bucket}
use Rattle.crush_units.specs.Id.{same_id}

-- if the negation of a test is true, the test is false
pub passed : (b : Bool) → true ≡ not b → b ≡ false
passed true e = absurd cc
passed false e = refl

-- an option that has a value, together with this value
pub found : {X : Type 0} (o : Option X) → is_some o ≡ true → (x : X) × (o ≡ Some x)
found None h = absurd cc
found (Some x) h = (x, refl)

-- testing whether two buckets are the same gives the same result in either order
pub same_bucket : (a b : ℕ) → same_id (Bucket a) (Bucket b) ≡ same_id (Bucket b) (Bucket a)
same_bucket a b = grind (arith, eqb_tells)
