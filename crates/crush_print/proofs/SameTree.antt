-- Two tables that are the same, except for the order of their rows, have the same tree.
use Rattle.std.proofs.Common.{◌≡◌, ℕ, zero, suc, ◌+◌, List, [], ◌∷◌, ◌++◌, length, refl, ap, ◌∙◌}
use Rattle.std.specs.Prelude.{flat_map}
use Rattle.std.specs.Option.{option_map, option_map_or}
use Rattle.crush_units.specs.declared.id.ItemId.{ItemId}
use Rattle.crush_units.specs.declared.id.ItemId.TheVariants.{Device, Bucket}
use Rattle.crush_model.specs.Lawful.{Lawful}
use Rattle.crush_model.specs.Same.{Same}
use Rattle.crush_model.specs.Table.{Row, row_of}
use Rattle.crush_model.proofs.Found.{row_of-same}
use Rattle.crush_model.proofs.Reorder.{reordered-length}
use Rattle.crush_model.proofs.Same.{item_weight-same}
use Rattle.crush_nodes.specs.Views.{ViewData, row_view}
use Rattle.crush_print.specs.MapText.{root_number, root_numbers}
use Rattle.crush_items.proofs.Sorting.{ascending-reordered}
use Rattle.crush_items.specs.Tree.{WalkStepData, step_at, steps_at, unplaced_number, unplaced_numbers, tree_rows}
use Rattle.crush_print.specs.TreeText.{steps_text, tree_text, SameTablesHaveOneTree}

abbrev step : ℕ → ViewData → List WalkStepData
step depth v = record { depth = depth; item = v } ∷ []

module _ (t u : List Row) (l : Lawful t) (same : Same t u) where
  row_view-same : (r : Row) → row_view t r ≡ row_view u r
  row_view-same r = ap (λ w. record { id = r.id; kind = r.kind; name = r.name; weight = w; parent = r.parent; class = r.class; alg = r.alg }) (item_weight-same t u same.rows l.ids r.id r.weight)

  step_at-same : (depth : ℕ) (i : ItemId) → step_at t depth i ≡ step_at u depth i
  unfolding step_at
  step_at-same depth i =
      ap (λ o. option_map_or (λ (v : ViewData). step depth v) (option_map (row_view t) o) []) (row_of-same t u same.rows l.ids i)
      ∙ (λ k. option_map_or (λ (v : ViewData). step depth v) (option_map (λ r. row_view-same r k) (row_of u i)) [])

  steps_at-same : (n depth : ℕ) (i : ItemId) → steps_at t n depth i ≡ steps_at u n depth i
  unfolding steps_at
  steps_at-same n depth (Device d) = step_at-same depth (Device d)
  steps_at-same zero depth (Bucket b) = refl
  steps_at-same (suc n) depth (Bucket b) = λ k. step_at-same depth (Bucket b) k ++ flat_map (λ i. steps_at-same n (depth + 1) i k) (same.kids b k)

  pub tree_rows-same : tree_rows t ≡ tree_rows u
  unfolding tree_rows root_numbers unplaced_numbers
  tree_rows-same =
      (λ k. flat_map (λ b. steps_at t (reordered-length same.rows k) 0 (Bucket b)) (ascending-reordered root_number t u same.rows k) ++ flat_map (λ d. step_at-same 0 (Device d) k) (ascending-reordered unplaced_number t u same.rows k))
      ∙ (λ k. flat_map (λ b. steps_at-same (length u) 0 (Bucket b) k) (root_numbers u) ++ flat_map (λ d. step_at u 0 (Device d)) (unplaced_numbers u))

pub tree_text-same : SameTablesHaveOneTree
unfolding tree_text
tree_text-same s t u l same = ap (steps_text s) (tree_rows-same t u l same)
