-- The order of refusals.
use Rattle.std.proofs.Common.{◌≡◌, ℕ, zero, suc, ◌+◌, ◌<◌, ◌≤◌, Bool, true, false, List, [], ◌∷◌, ◌++◌, sym, subst, refl, arith, ◌∙◌, ap}
use Rattle.std.specs.Prelude.{◌==◌, ◌&&◌, if◌then◌else◌, Option, Some, None, IfSome, All, map, nat_lt, slice_index}
use Rattle.std.specs.List.Sorted.{IsStrictlyIncreasing}
use Rattle.std.proofs.lemmas.Bool.{and_parts, ltb-true}
use Rattle.std.proofs.lemmas.List.Elements.{All-nil, All-cons, All-weaker, All-head, All-tail}
use Rattle.crush_model.specs.Table.{Row}
use Rattle.crush_edits.specs.declared.refusal.Refusal.{Refusal}
use Rattle.crush_edits.specs.declared.refusal.Refusal.TheVariants.{BadName, BadLocation, NoSuchType, NoPlace, WeightTooLarge, NoSuchItem, NameTaken, AlreadyPlaced, NotPlaced, NotADevice, NotABucket, WrongType, Loop, Nested, NotEmpty, InUse, NotDirectory, AlreadyRenamed, NoRoom, SumTooLarge, ClassBound}
use Rattle.crush_edits.specs.declared.edit.Edit.{Edit}
use Rattle.crush_edits.specs.declared.edit.Edit.TheVariants.{Place, Move, Swap, Reweight, ReweightSubtree, Remove, AddBucket, Rename, SetClass, RemoveClass}
use Rattle.crush_edits.specs.declared.edit.Placing.TheVariants.{Insert, CreateOrMove, Update}
use Rattle.crush_edits.specs.Setting.{SettingData}
use Rattle.crush_edits.specs.Refusal.{refusal_number}
use Rattle.crush_edits.specs.Answer.{After, first_refusal}
use Rattle.crush_edits.specs.Edit.{after, tests, refusal}
use Rattle.crush_edits.specs.LawOrder.{RowsAreRefusals, TestsRise, LeastIsTold, NoneIsTold, NothingIsTold, GroupPasses, GroupRefuses}

pub rows_are : RowsAreRefusals
rows_are BadName = refl
rows_are BadLocation = refl
rows_are NoSuchType = refl
rows_are NoPlace = refl
rows_are WeightTooLarge = refl
rows_are NoSuchItem = refl
rows_are NameTaken = refl
rows_are AlreadyPlaced = refl
rows_are NotPlaced = refl
rows_are NotADevice = refl
rows_are NotABucket = refl
rows_are WrongType = refl
rows_are Loop = refl
rows_are Nested = refl
rows_are NotEmpty = refl
rows_are InUse = refl
rows_are NotDirectory = refl
rows_are AlreadyRenamed = refl
rows_are NoRoom = refl
rows_are SumTooLarge = refl
rows_are ClassBound = refl

-- RISING NUMBERS, as a test that computes
abbrev rises_from : ℕ → List ℕ → Bool
rises_from x [] = true
rises_from x (y ∷ ys) = nat_lt x y && rises_from y ys

abbrev rises : List ℕ → Bool
rises [] = true
rises (x ∷ xs) = rises_from x xs

increasing_from : (x : ℕ) (xs : List ℕ) → rises_from x xs ≡ true → IsStrictlyIncreasing (x ∷ xs)
increasing_from x [] h k lt = absurd (omega arith)
increasing_from x (y ∷ ys) h zero lt = ltb-true x y (and_parts (nat_lt x y) (rises_from y ys) h).0
increasing_from x (y ∷ ys) h (suc k) lt =
    let more : suc k + 1 ≡ suc (k + 1) = omega arith in
    subst (λ j. slice_index (x ∷ y ∷ ys) (suc k) < slice_index (x ∷ y ∷ ys) j) (sym more) (increasing_from y ys (and_parts (nat_lt x y) (rises_from y ys) h).1 k (omega arith))

increasing : (xs : List ℕ) → rises xs ≡ true → IsStrictlyIncreasing xs
increasing [] h = λ k lt. absurd (omega arith)
increasing (x ∷ xs) h = increasing_from x xs h

abbrev numbers : List (Refusal × Bool) → List ℕ
numbers ps = map (λ p. refusal_number p.0) ps

-- the numbers rise in each list of tests, whatever the results of the tests are
tests_rise : (s : SettingData) (t : List Row) (e : Edit) (a : After) → rises (numbers (tests s t e a)) ≡ true
tests_rise s t (Place Insert d n w l) a = refl
tests_rise s t (Place CreateOrMove d n w l) a = refl
tests_rise s t (Place Update d n w l) a = refl
tests_rise s t (Move n l) a = refl
tests_rise s t (Swap m n) a = refl
tests_rise s t (Reweight n w) a = refl
tests_rise s t (ReweightSubtree n w) a = refl
tests_rise s t (Remove n) a = refl
tests_rise s t (AddBucket n kind) a = refl
tests_rise s t (Rename from to) a = refl
tests_rise s t (SetClass n c) a = refl
tests_rise s t (RemoveClass n) a = refl

pub rising : TestsRise
rising s t e a = increasing (numbers (tests s t e a)) (tests_rise s t e a)

-- THE LEAST number is reported
above : (x : ℕ) (ps : List (Refusal × Bool)) → rises_from x (numbers ps) ≡ true → All (λ p. x ≤ refusal_number p.0) ps
above x [] h = All-nil (λ p. x ≤ refusal_number p.0)
above x (p ∷ ps) h =
    let both = and_parts (nat_lt x (refusal_number p.0)) (rises_from (refusal_number p.0) (numbers ps)) h in
    let here : x < refusal_number p.0 = ltb-true x (refusal_number p.0) both.0 in
    All-cons (λ q. x ≤ refusal_number q.0) p ps (omega (arith, here)) (All-weaker (λ q. refusal_number p.0 ≤ refusal_number q.0) (λ q. x ≤ refusal_number q.0) (λ q le. omega (arith, here, le)) ps (above (refusal_number p.0) ps both.1))

later : (x : ℕ) (xs : List ℕ) → rises_from x xs ≡ true → rises xs ≡ true
later x [] h = refl
later x (y ∷ ys) h = (and_parts (nat_lt x y) (rises_from y ys) h).1

least_of : (ps : List (Refusal × Bool)) → rises (numbers ps) ≡ true → (r : Refusal) → first_refusal ps ≡ Some r → All (λ p. p.1 ≡ true → refusal_number r ≤ refusal_number p.0) ps
least_of [] h r e = All-nil (λ p. p.1 ≡ true → refusal_number r ≤ refusal_number p.0)
least_of (p ∷ ps) h r e = by_test p.1 refl (λ f. least_of ps (later (refusal_number p.0) (numbers ps) h) r f) e where
  by_test : (b : Bool) → p.1 ≡ b → (first_refusal ps ≡ Some r → All (λ q. q.1 ≡ true → refusal_number r ≤ refusal_number q.0) ps) → (if b then Some p.0 else first_refusal ps) ≡ Some r → All (λ q. q.1 ≡ true → refusal_number r ≤ refusal_number q.0) (p ∷ ps)
  by_test true is rest f =
      let same : p.0 ≡ r = cc in
      All-cons (λ q. q.1 ≡ true → refusal_number r ≤ refusal_number q.0) p ps (λ _. subst (λ x. refusal_number x ≤ refusal_number p.0) same (omega arith))
      (All-weaker (λ q. refusal_number p.0 ≤ refusal_number q.0) (λ q. q.1 ≡ true → refusal_number r ≤ refusal_number q.0) (λ q le _. subst (λ x. refusal_number x ≤ refusal_number q.0) same le) ps (above (refusal_number p.0) ps h))
  by_test false is rest f = All-cons (λ q. q.1 ≡ true → refusal_number r ≤ refusal_number q.0) p ps (λ yes. absurd cc) (rest f)

pub least : LeastIsTold
least s t e r told = least_of (tests s t e (after s t e)) (tests_rise s t e (after s t e)) r told

none_of : (ps : List (Refusal × Bool)) → first_refusal ps ≡ None → All (λ p. p.1 ≡ false) ps
none_of [] e = All-nil (λ p. p.1 ≡ false)
none_of (p ∷ ps) e = by_test p.1 refl (none_of ps) e where
  by_test : (b : Bool) → p.1 ≡ b → (first_refusal ps ≡ None → All (λ q. q.1 ≡ false) ps) → (if b then Some p.0 else first_refusal ps) ≡ None → All (λ q. q.1 ≡ false) (p ∷ ps)
  by_test true is rest f = absurd cc
  by_test false is rest f = All-cons (λ q. q.1 ≡ false) p ps is (rest f)

pub none_told : NoneIsTold
none_told s t e told = none_of (tests s t e (after s t e)) told

-- BY ITS NAME: the test of a refusal in a list of tests
abbrev pub test_of : Refusal → List (Refusal × Bool) → Option Bool
test_of r [] = None
test_of r (p ∷ ps) = if refusal_number p.0 == refusal_number r then Some p.1 else test_of r ps

-- the test of a refusal is false if all tests are
one_passed : (r : Refusal) (ps : List (Refusal × Bool)) → All (λ p. p.1 ≡ false) ps → IfSome (test_of r ps) (λ b. b ≡ false)
one_passed r [] a = tt
one_passed r (p ∷ ps) a = by_name (refusal_number p.0 == refusal_number r) (All-head (λ q. q.1 ≡ false) p ps a) (one_passed r ps (All-tail (λ q. q.1 ≡ false) p ps a)) where
  by_name : (c : Bool) → p.1 ≡ false → IfSome (test_of r ps) (λ b. b ≡ false) → IfSome (if c then Some p.1 else test_of r ps) (λ b. b ≡ false)
  by_name true here there = here
  by_name false here there = there

-- if a list gives no refusal, the test of each refusal is false, wherever in the list it is
pub passed : (ps : List (Refusal × Bool)) → first_refusal ps ≡ None → (r : Refusal) → IfSome (test_of r ps) (λ b. b ≡ false)
passed ps told r = one_passed r ps (none_of ps told)

-- the same for the tests of an edit
pub edit_passed : (s : SettingData) (t : List Row) (e : Edit) → refusal s t e ≡ None → (r : Refusal) → IfSome (test_of r (tests s t e (after s t e))) (λ b. b ≡ false)
edit_passed s t e told r = passed (tests s t e (after s t e)) told r

-- GROUPS of tests
pub nothing_told : NothingIsTold
nothing_told [] a = refl
nothing_told (p ∷ ps) a = ap (λ b. if b then Some p.0 else first_refusal ps) (All-head (λ q. q.1 ≡ false) p ps a) ∙ nothing_told ps (All-tail (λ q. q.1 ≡ false) p ps a)

pub group_passes : GroupPasses
group_passes [] qs e = refl
group_passes (p ∷ ps) qs e = by_test p.1 e (group_passes ps qs) where
  by_test : (b : Bool) → (if b then Some p.0 else first_refusal ps) ≡ None → (first_refusal ps ≡ None → first_refusal (ps ++ qs) ≡ first_refusal qs) → (if b then Some p.0 else first_refusal (ps ++ qs)) ≡ first_refusal qs
  by_test true f rest = absurd cc
  by_test false f rest = rest f

pub group_refuses : GroupRefuses
group_refuses [] qs r e = absurd cc
group_refuses (p ∷ ps) qs r e = by_test p.1 e (group_refuses ps qs r) where
  by_test : (b : Bool) → (if b then Some p.0 else first_refusal ps) ≡ Some r → (first_refusal ps ≡ Some r → first_refusal (ps ++ qs) ≡ Some r) → (if b then Some p.0 else first_refusal (ps ++ qs)) ≡ Some r
  by_test true f rest = f
  by_test false f rest = rest f
