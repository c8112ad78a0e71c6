-- Proves that if items are matched by names, the pairs of a part are exactly the pairs that are in the part.
use Rattle.std.proofs.Common.{◌≡◌, ℕ, true, false, List, [], ◌∷◌, ◌++◌, ◌∙◌, refl, sym}
use Rattle.std.specs.Prelude.{Bool, None, Some, filter, flat_map, is_some, not, ◌&&◌, if◌then◌else◌}
use Rattle.std.proofs.lemmas.List.Elements.{filter-append}
use Rattle.crush_model.specs.Table.{Row}
use Rattle.crush_items.specs.ItemData.{ItemData}
use Rattle.crush_items.specs.Tree.{tree_rows}
use Rattle.crush_compare.specs.Named.{counterpart, is_in}
use Rattle.crush_compare.specs.NamedPairs.{PairData, PartOfPairs, if_listed, is_in_part, new_pair, new_pairs, old_pair, old_pairs, pairs, step_item}
use Rattle.crush_compare.specs.declared.identity.Devices.{Devices}

kept_each : {X Y : Type 0} (f : Y → Bool) (g h : X → List Y) → ((x : X) → g x ≡ filter f (h x)) → (xs : List X) → flat_map g xs ≡ filter f (flat_map h xs)
kept_each f g h each [] = refl
kept_each f g h each (x ∷ xs) = (λ i. each x i ++ kept_each f g h each xs i) ∙ sym (filter-append f (h x) (flat_map h xs))

of_new : (by : Devices) (n : List ℕ) (t u : List Row) (y : ItemData) → new_pair by (Some n) t u y ≡ filter (is_in_part n t u) (new_pair by None t u y)
of_new by n t u y = refl

of_old : (by : Devices) (n : List ℕ) (t u : List Row) (x : ItemData) → old_pair by (Some n) t u x ≡ filter (is_in_part n t u) (old_pair by None t u x)
of_old by n t u x = step (is_some (counterpart by u x)) (is_in (Some n) t x.view.id) ∙ sym (kept (is_some (counterpart by u x))) where
  own : PairData
  own = record { before = Some x; after = None }

  step : (b a : Bool) → if_listed (a && not b) own ≡ (if not b then (if a then own ∷ [] else []) else [])
  step false true = refl
  step false false = refl
  step true true = refl
  step true false = refl

  kept : (b : Bool) → filter (is_in_part n t u) (if_listed (not b) own) ≡ (if not b then (if is_in (Some n) t x.view.id then own ∷ [] else []) else [])
  kept true = refl
  kept false = refl

pub part_of_pairs : PartOfPairs
unfolding pairs new_pairs old_pairs
part_of_pairs by n t u =
    (λ i. kept_each (is_in_part n t u) (λ s. new_pair by (Some n) t u (step_item u s)) (λ s. new_pair by None t u (step_item u s)) (λ s. of_new by n t u (step_item u s)) (tree_rows u) i
    ++ kept_each (is_in_part n t u) (λ s. old_pair by (Some n) t u (step_item t s)) (λ s. old_pair by None t u (step_item t s)) (λ s. of_old by n t u (step_item t s)) (tree_rows t) i)
    ∙ sym (filter-append (is_in_part n t u) (flat_map (λ s. new_pair by None t u (step_item u s)) (tree_rows u)) (flat_map (λ s. old_pair by None t u (step_item t s)) (tree_rows t)))
