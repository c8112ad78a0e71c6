-- Lemmas about the pairs by names: there is one for each item of the new map, and one for each item that only the old map has.
use Rattle.std.proofs.Common.{◌≡◌, ℕ, ◌+◌, Bool, true, false, List, [], ◌∷◌, ◌++◌, refl, ap, arith, ◌∙◌, append-nil}
use Rattle.std.specs.List.{count_by, sum_by}
use Rattle.std.specs.Prelude.{flat_map, ◌&&◌, Option, None, Some, is_some, not, if◌then◌else◌, codes}
use Rattle.std.proofs.lemmas.List.Concat.{flat_map-append}
use Rattle.std.proofs.lemmas.List.Sums.{sum_by-append, sum_by-cons}
use Rattle.crush_model.specs.Count.{one_if}
use Rattle.crush_model.specs.Table.{Row}
use Rattle.crush_model.proofs.KidSums.{sum_by-agree}
use Rattle.crush_model.proofs.Reorder.{sum_by-flat_map}
use Rattle.crush_items.specs.ItemData.{ItemData}
use Rattle.crush_since.specs.Since.{PlainMap}
use Rattle.crush_items.specs.Tree.{WalkStepData, tree_rows}
use Rattle.crush_compare.specs.declared.identity.Devices.{Devices}
use Rattle.crush_compare.specs.declared.identity.Devices.TheVariants.{ById}
use Rattle.crush_compare.specs.Named.{counterpart}
use Rattle.crush_compare.specs.NamedPairs.{PairData, if_listed, is_gone, is_of_part, new_pair, old_pair, new_pairs, old_pairs, pairs, step_item}
use Rattle.crush_since.specs.Stays.{wanted_parts, stay_line, stay_pair, stay_lines, named_setting_lines, stays_part, stays}
use Rattle.crush_since.proofs.TreeLaws.{flat_twice}

pub same_of : {X Z : Type 0} (f g : X → List Z) → ((x : X) → f x ≡ g x) → (xs : List X) → flat_map f xs ≡ flat_map g xs
same_of f g each [] = refl
same_of f g each (x ∷ xs) = λ k. each x k ++ same_of f g each xs k

module _ {Z : Type 0} (g : PairData → List Z) (by : Devices) (t u : List Row) where
  abbrev of_new : WalkStepData → List Z
  of_new s = g (record { before = counterpart by t (step_item u s); after = Some (step_item u s) })

  abbrev of_old : WalkStepData → List Z
  of_old s = if is_some (counterpart by u (step_item t s)) then [] else g (record { before = Some (step_item t s); after = None })

  by_test : (b : Bool) (p : PairData) → flat_map g (if_listed (not b) p) ≡ (if b then [] else g p)
  by_test true p = refl
  by_test false p = append-nil (g p)

  pub whole_pairs : flat_map g (pairs by None t u) ≡ flat_map of_new (tree_rows u) ++ flat_map of_old (tree_rows t)
  unfolding pairs new_pairs old_pairs
  whole_pairs =
      flat_map-append g (new_pairs by None t u) (old_pairs by None t u)
      ∙ (λ k. (flat_twice g (λ s. new_pair by None t u (step_item u s)) (tree_rows u) ∙ same_of _ of_new (λ s. append-nil (of_new s)) (tree_rows u)) k
      ++ (flat_twice g (λ s. old_pair by None t u (step_item t s)) (tree_rows t)
      ∙ same_of _ of_old (λ s. by_test (is_some (counterpart by u (step_item t s))) (record { before = Some (step_item t s); after = None })) (tree_rows t)) k)

-- HOW MANY PAIRS of a part meet a test, counted over the steps of both trees
module _ (f : PairData → Bool) (by : Devices) (under : Option (List ℕ)) (t u : List Row) where
  abbrev pub of_new_step : WalkStepData → Bool
  of_new_step s = f (record { before = counterpart by t (step_item u s); after = Some (step_item u s) }) && is_of_part by under t u (step_item u s)

  abbrev pub of_old_step : WalkStepData → Bool
  of_old_step s = f (record { before = Some (step_item t s); after = None }) && is_gone by under t u (step_item t s)

  abbrev one : PairData → ℕ
  one p = one_if (f p)

  and_true : (c : Bool) → one_if c ≡ one_if (c && true)
  and_true true = refl
  and_true false = refl

  and_false : (c : Bool) → 0 ≡ one_if (c && false)
  and_false true = refl
  and_false false = refl

  one_listed : (b : Bool) (p : PairData) → sum_by one (if_listed b p) ≡ one_if (f p && b)
  one_listed true p = let more = sum_by-cons one p [] in omega (arith, more, and_true (f p))
  one_listed false p = and_false (f p)

  pub count_pairs : count_by f (pairs by under t u) ≡ count_by of_new_step (tree_rows u) + count_by of_old_step (tree_rows t)
  unfolding pairs new_pairs old_pairs
  count_pairs =
      sum_by-append one (new_pairs by under t u) (old_pairs by under t u)
      ∙ (λ k. (sum_by-flat_map one (λ s. new_pair by under t u (step_item u s)) (tree_rows u)
      ∙ sum_by-agree (λ s. sum_by one (new_pair by under t u (step_item u s))) (λ s. one_if (of_new_step s)) (λ s. one_listed (is_of_part by under t u (step_item u s)) (record { before = counterpart by t (step_item u s); after = Some (step_item u s) })) (tree_rows u)) k
      + (sum_by-flat_map one (λ s. old_pair by under t u (step_item t s)) (tree_rows t)
      ∙ sum_by-agree (λ s. sum_by one (old_pair by under t u (step_item t s))) (λ s. one_if (of_old_step s)) (λ s. one_listed (is_gone by under t u (step_item t s)) (record { before = Some (step_item t s); after = None })) (tree_rows t)) k)

-- WHAT STAYS: the lines are those of the wanted items, followed by those of the items that aren't wanted
abbrev pub told_unwanted : Bool → List (List ℕ)
told_unwanted is_wanted = if is_wanted then [] else codes "not wanted" ∷ []

abbrev pub unwanted_parts : Option ItemData → List (List ℕ)
unwanted_parts o = told_unwanted (is_some o)

unfoldable pub wanted_line : PlainMap → PlainMap → ItemData → List (List ℕ)
wanted_line old new y = stay_line y.view.name (wanted_parts old.setting new.setting (counterpart ById old.table y) y)

unfoldable pub unwanted_line : PlainMap → ItemData → List (List ℕ)
unwanted_line new x = stay_line x.view.name (unwanted_parts (counterpart ById new.table x))

unfoldable pub wanted_lines : PlainMap → PlainMap → List (List ℕ)
wanted_lines old new = flat_map (λ step. wanted_line old new (step_item new.table step)) (tree_rows new.table)

unfoldable pub unwanted_lines : PlainMap → PlainMap → List (List ℕ)
unwanted_lines old new = flat_map (λ step. unwanted_line new (step_item old.table step)) (tree_rows old.table)

stay_lines_are : (old new : PlainMap) → stay_lines None old new ≡ wanted_lines old new ++ unwanted_lines old new
unfolding stay_lines wanted_lines unwanted_lines wanted_line unwanted_line stay_pair
stay_lines_are old new =
    whole_pairs (stay_pair old.setting new.setting) ById old.table new.table
    ∙ ap (λ l. flat_map (λ step. wanted_line old new (step_item new.table step)) (tree_rows new.table) ++ l)
    (same_of _ (λ step. unwanted_line new (step_item old.table step)) (λ s. by_test (step_item old.table s) (is_some (counterpart ById new.table (step_item old.table s)))) (tree_rows old.table)) where
      by_test : (x : ItemData) (b : Bool) → (if b then [] else stay_line x.view.name (codes "not wanted" ∷ [])) ≡ stay_line x.view.name (told_unwanted b)
      by_test x true = refl
      by_test x false = refl

pub stays_are : (old new : PlainMap) → stays old new ≡ wanted_lines old new ++ unwanted_lines old new ++ named_setting_lines old new
unfolding stays_part
stays_are old new = ap (λ l. l ++ named_setting_lines old new) (stay_lines_are old new)
