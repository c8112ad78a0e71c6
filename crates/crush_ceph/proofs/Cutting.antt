-- Where the first command ends.
use Rattle.std.proofs.Common.{◌≡◌, ℕ, ◌+◌, ◌<◌, ◌≤◌, suc, Bool, true, false, List, [], ◌∷◌, ◌++◌, append_assoc, length, take, drop, refl, sym, ap, subst, ◌∙◌, arith}
use Rattle.std.specs.Prelude.{flat_map, if◌then◌else◌}
use Rattle.crush_ceph.specs.Commands.{command_line, cut, joins, second_joins, with_step}
use Rattle.crush_ceph.specs.declared.steps.CephStep.{CephStep}

-- how many steps the first command does
pub run : List CephStep → ℕ
run [] = 0
run (e ∷ []) = 1
run (e ∷ f ∷ fs) = if joins e f then suc (run (f ∷ fs)) else 1

run_is : (e : CephStep) (es : List CephStep) → (m : ℕ) × (run (e ∷ es) ≡ suc m)
unfolding run
run_is e [] = (0, refl)
run_is e (f ∷ fs) = by_join (joins e f) where
  by_join : (b : Bool) → (m : ℕ) × ((if b then suc (run (f ∷ fs)) else 1) ≡ suc m)
  by_join true = (run (f ∷ fs), refl)
  by_join false = (0, refl)

-- THE FIRST COMMAND, and the commands after it
pub first_cut : (e : CephStep) (es : List CephStep) → cut (e ∷ es) ≡ take (run (e ∷ es)) (e ∷ es) ∷ cut (drop (run (e ∷ es)) (e ∷ es))
unfolding run
first_cut e [] = refl
first_cut e (f ∷ fs) = at (run_is f fs) (first_cut f fs) where
  by_join : (m : ℕ) → cut (f ∷ fs) ≡ (f ∷ take m fs) ∷ cut (drop m fs) → (b : Bool)
      → (if b then (e ∷ f ∷ take m fs) ∷ cut (drop m fs) else (e ∷ []) ∷ (f ∷ take m fs) ∷ cut (drop m fs))
      ≡ take (if b then suc (suc m) else 1) (e ∷ f ∷ fs) ∷ cut (drop (if b then suc (suc m) else 1) (e ∷ f ∷ fs))
  by_join m others true = refl
  by_join m others false = ap (λ (cs : List (List CephStep)). (e ∷ []) ∷ cs) (sym others)

  at : (m : ℕ) × (run (f ∷ fs) ≡ suc m) → cut (f ∷ fs) ≡ take (run (f ∷ fs)) (f ∷ fs) ∷ cut (drop (run (f ∷ fs)) (f ∷ fs))
      → with_step e (cut (f ∷ fs)) ≡ take (if joins e f then suc (run (f ∷ fs)) else 1) (e ∷ f ∷ fs) ∷ cut (drop (if joins e f then suc (run (f ∷ fs)) else 1) (e ∷ f ∷ fs))
  at (m, is) found =
      let others : cut (f ∷ fs) ≡ (f ∷ take m fs) ∷ cut (drop m fs) = subst (λ (n : ℕ). cut (f ∷ fs) ≡ take n (f ∷ fs) ∷ cut (drop n (f ∷ fs))) is found in
      ap (with_step e) others ∙ by_join m others (joins e f)
      ∙ ap (λ (n : ℕ). take (if joins e f then suc n else 1) (e ∷ f ∷ fs) ∷ cut (drop (if joins e f then suc n else 1) (e ∷ f ∷ fs))) (sym is)

-- the same for a list that isn't empty
pub some_cut : (steps : List CephStep) → 0 < length steps → cut steps ≡ take (run steps) steps ∷ cut (drop (run steps) steps)
some_cut [] some = absurd (omega (arith, some))
some_cut (e ∷ es) some = first_cut e es

-- THE NEXT STEP joins the command, or the command ends before it
pub run_more : (steps : List CephStep) → second_joins steps ≡ true → run steps ≡ 1 + run (drop 1 steps)
unfolding run
run_more [] joined = absurd cc
run_more (e ∷ []) joined = absurd cc
run_more (e ∷ f ∷ fs) joined = by_join (joins e f) joined where
  by_join : (b : Bool) → b ≡ true → (if b then suc (run (f ∷ fs)) else 1) ≡ 1 + run (f ∷ fs)
  by_join true is = omega arith
  by_join false is = absurd cc

pub run_ends : (steps : List CephStep) → 0 < length steps → second_joins steps ≡ false → run steps ≡ 1
unfolding run
run_ends [] some ends = absurd (omega (arith, some))
run_ends (e ∷ []) some ends = refl
run_ends (e ∷ f ∷ fs) some ends = by_join (joins e f) ends where
  by_join : (b : Bool) → b ≡ false → (if b then suc (run (f ∷ fs)) else 1) ≡ 1
  by_join true is = absurd cc
  by_join false is = refl

-- no second step is there
pub no_second : (steps : List CephStep) → length steps ≤ 1 → second_joins steps ≡ false
no_second [] short = refl
no_second (e ∷ []) short = refl
no_second (e ∷ f ∷ fs) short = absurd (omega (arith, short))

-- THE LINES and the number of the commands after the first one
pub next_lines : (rest : List CephStep) (len : ℕ) (text behind whole : List ℕ) → cut rest ≡ take len rest ∷ cut (drop len rest) → behind ≡ text ++ command_line (take len rest)
    → text ++ flat_map command_line (cut rest) ≡ whole → behind ++ flat_map command_line (cut (drop len rest)) ≡ whole
next_lines rest len text behind whole first pushed was =
    ap (λ (l : List ℕ). l ++ flat_map command_line (cut (drop len rest))) pushed
    ∙ append_assoc text (command_line (take len rest)) (flat_map command_line (cut (drop len rest)))
    ∙ ap (λ (cs : List (List CephStep)). text ++ flat_map command_line cs) (sym first)
    ∙ was

pub next_count : (rest : List CephStep) (len : ℕ) → cut rest ≡ take len rest ∷ cut (drop len rest) → length (cut rest) ≡ 1 + length (cut (drop len rest))
next_count rest len first = omega (arith, ap (λ (cs : List (List CephStep)). length cs) first)
