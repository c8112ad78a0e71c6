-- Ids of items, compared.
use Rattle.std.proofs.Common.{◌≡◌, ◌≢◌, ◌⊎◌, inl, inr, Bool, true, false, refl, ap, sym, ◌∙◌}
use Rattle.std.proofs.lemmas.Bool.{eqb-true, eq-eqb}
use Rattle.crush_units.specs.declared.id.ItemId.{ItemId}
use Rattle.crush_units.specs.declared.id.ItemId.TheVariants.{Device, Bucket}
use Rattle.crush_units.specs.Id.{same_id}

-- an id is the same as itself
pub same_id_refl : (a : ItemId) → same_id a a ≡ true
same_id_refl (Device n) = eq-eqb n n refl
same_id_refl (Bucket n) = eq-eqb n n refl

-- if the test says that two ids are the same, they are equal
pub same_id_equal : (a b : ItemId) → same_id a b ≡ true → a ≡ b
same_id_equal (Device m) (Device n) e = ap Device (eqb-true m n e)
same_id_equal (Bucket m) (Bucket n) e = ap Bucket (eqb-true m n e)
same_id_equal (Device m) (Bucket n) e = absurd cc
same_id_equal (Bucket m) (Device n) e = absurd cc

-- if two ids are equal, the test says that they are the same
pub equal_same_id : (a b : ItemId) → a ≡ b → same_id a b ≡ true
equal_same_id a b e = sym (ap (same_id a) e) ∙ same_id_refl a

-- a test is true or false
true_or_false : (v : Bool) → (v ≡ true) ⊎ (v ≡ false)
true_or_false true = inl refl
true_or_false false = inr refl

-- the test is true and the ids are equal, or it is false and they differ
pub same_id_tells : (a b : ItemId) → ((same_id a b ≡ true) × (a ≡ b)) ⊎ ((same_id a b ≡ false) × (a ≢ b))
same_id_tells a b =
    elim (true_or_false (same_id a b)) [
      | inl t ↦ inl (t, same_id_equal a b t)
      | inr f ↦ inr (f, λ e. let t = equal_same_id a b e in absurd cc)
    ]

-- if two ids differ, the test says so
pub distinct_same_id : (a b : ItemId) → a ≢ b → same_id a b ≡ false
distinct_same_id a b h = elim (same_id_tells a b) [ inl t ↦ absurd (h t.1) | inr f ↦ f.0 ]

-- the test doesn't depend on the order of the two ids
pub same_id_comm : (a b : ItemId) → same_id a b ≡ same_id b a
same_id_comm a b =
    elim (same_id_tells a b) [
      | inl t ↦ t.0 ∙ sym (equal_same_id b a (sym t.1))
      | inr f ↦ f.0 ∙ sym (distinct_same_id b a (λ e. f.1 (sym e)))
    ]
