-- What a fault that a method returns says about the draft, and what follows if there is no fault.
use Rattle.std.proofs.Common.{◌≡◌, Bool, true, false, List, [], ◌∷◌, refl, sym, subst, ◌∙◌}
use Rattle.std.proofs.lemmas.Bool.{and_parts}
use Rattle.std.specs.Prelude.{Option, Some, None, Result, Ok, Err, IfErr, IsErrAnd, is_some, not, ◌&&◌, if◌then◌else◌}
use Rattle.std.specs.List.{list_all}
use Rattle.crush_builder.specs.declared.fault.BuildFault.{BuildFault}
use Rattle.crush_builder.specs.declared.fault.BuildFault.TheVariants.{BadWeight, DuplicateId, DuplicateName, UnknownType, UnknownItem, SecondParent, UnknownBucketInRule, TooMany, SumTooLarge, OutOfMemory}
use Rattle.crush_builder.specs.Faults.{fault_told, first_fault}

-- whether the fault is any fault except for OutOfMemory. If a list has only such faults, then `fault_told` of its first fault whose test is true is this fault itself
abbrev is_told : BuildFault × Bool → Bool
is_told p = is_some (fault_told p.0)

told_itself : (f : BuildFault) → is_some (fault_told f) ≡ true → fault_told f ≡ Some f
told_itself BadWeight h = refl
told_itself DuplicateId h = refl
told_itself DuplicateName h = refl
told_itself UnknownType h = refl
told_itself UnknownItem h = refl
told_itself SecondParent h = refl
told_itself UnknownBucketInRule h = refl
told_itself TooMany h = refl
told_itself SumTooLarge h = refl
told_itself OutOfMemory h = absurd (let no : false ≡ true = h in cc)

pub first_told : (ps : List (BuildFault × Bool)) → list_all is_told ps ≡ true → (f : BuildFault) → first_fault ps ≡ Some f → first_fault ps ≡ fault_told f
first_told [] h f e = absurd (let no : ◌≡◌ {A = Option BuildFault} None (Some f) = e in cc)
first_told (p ∷ ps) h f e = by_test p.1 e (first_told ps b.1 f) where
  b : (is_told p ≡ true) × (list_all is_told ps ≡ true)
  b = and_parts (is_told p) (list_all is_told ps) h

  by_test : (v : Bool) → (if v then Some p.0 else first_fault ps) ≡ Some f → (first_fault ps ≡ Some f → first_fault ps ≡ fault_told f) → (if v then Some p.0 else first_fault ps) ≡ fault_told f
  by_test true e ih = let same : p.0 ≡ f = cc in sym (told_itself p.0 b.0) ∙ (λ i. fault_told (same i))
  by_test false e ih = ih e

-- if no test of a list of faults holds, the first test fails, and no test of the rest of the list holds either
pub passes : (f : BuildFault) (v : Bool) (ps : List (BuildFault × Bool)) → first_fault ((f, v) ∷ ps) ≡ None → (v ≡ false) × (first_fault ps ≡ None)
passes f true ps h = absurd (let no : ◌≡◌ {A = Option BuildFault} (Some f) None = h in cc)
passes f false ps h = (refl, h)

pub none_of_two : (f g : BuildFault) (a b : Bool) → first_fault ((f, a) ∷ ((g, b) ∷ [])) ≡ None → (a ≡ false) × (b ≡ false)
none_of_two f g a b e = let x = passes f a ((g, b) ∷ []) e in (x.0, (passes g b [] x.1).0)

pub none_of_three : (f g h : BuildFault) (a b c : Bool) → first_fault ((f, a) ∷ ((g, b) ∷ ((h, c) ∷ []))) ≡ None → (a ≡ false) × ((b ≡ false) × (c ≡ false))
none_of_three f g h a b c e =
    let x = passes f a ((g, b) ∷ ((h, c) ∷ [])) e in
    let y = passes g b ((h, c) ∷ []) x.1 in
    (x.0, (y.0, (passes h c [] y.1).0))

-- the error OutOfMemory, when `?` passes it on to the caller
pub passed_on : {X : Type 0} (P : BuildFault → Type 0) (x : Result X BuildFault) → IsErrAnd x (λ e. e ≡ OutOfMemory) → P OutOfMemory → IfErr x P
passed_on P (Err e) h p = subst P (sym h) p
passed_on P (Ok d) h p = elim h [ ]

-- an item that is in the table and isn't the bucket that is being filled is in the table
pub closed_there : (a b : Bool) → (a && not b) ≡ true → a ≡ true
closed_there true b h = refl
closed_there false b h = h

pub closed_shut : (a b : Bool) → (a && not b) ≡ true → b ≡ false
closed_shut true true h = absurd (let no : false ≡ true = h in cc)
closed_shut true false h = refl
closed_shut false b h = absurd (let no : false ≡ true = h in cc)
