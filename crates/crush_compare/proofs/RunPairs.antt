-- Proves that the pairs with a position in the runs of a part are exactly the pairs in the part.
use Rattle.std.proofs.Common.{◌≡◌, ℕ, zero, suc, ◌+◌, ◌≤◌, ◌<◌, true, false, List, [], ◌∷◌, length, map, drop, ap, ◌∙◌, refl, sym, arith}
use Rattle.std.specs.Prelude.{Bool, Option, None, Some, filter, is_some, if◌then◌else◌, nat_le, nat_lt, ◌&&◌, ◌||◌}
use Rattle.std.specs.List.{slice_get, slice_range}
use Rattle.std.specs.Option.{option_map, option_map_or}
use Rattle.std.proofs.lemmas.Bool.Decides.{nat_tests}
use Rattle.std.proofs.lemmas.List.{length-map}
use Rattle.std.proofs.lemmas.Option.{slice_get_within}
use Rattle.crush_units.specs.declared.id.ItemId.{ItemId}
use Rattle.crush_model.specs.Lawful.{Lawful}
use Rattle.crush_model.specs.Table.{Row, id_named, is_there, row_of}
use Rattle.crush_model.proofs.Moved.{row_id}
use Rattle.crush_nodes.specs.Views.{ViewData}
use Rattle.crush_items.specs.ById.{entry_at}
use Rattle.crush_items.specs.Entries.{EntryData, entry_of, row_entry}
use Rattle.crush_items.specs.ItemData.{ItemData}
use Rattle.crush_items.specs.Items.{HasEntries, entry_id, item_entry, item_step}
use Rattle.crush_items.specs.Runs.{deeper, first_with_below, run_length}
use Rattle.crush_items.specs.Tree.{WalkStepData, tree_rows}
use Rattle.crush_items.specs.declared.by_id.Place.{Place}
use Rattle.crush_items.specs.declared.items.Item.{Item}
use Rattle.crush_items.specs.declared.run.Run.{Run}
use Rattle.crush_compare.specs.Named.{is_at, is_in}
use Rattle.crush_compare.specs.NamedPairs.{PairData, is_found_in, is_in_part}
use Rattle.crush_compare.specs.PairItems.{item_at, items_at}
use Rattle.crush_compare.specs.NamedPart.{AreAt, IsPartOf}
use Rattle.crush_compare.specs.Within.{has_item_within, is_within}
use Rattle.crush_compare.specs.declared.by_id.Pair.{Pair}
use Rattle.crush_compare.proofs.NamedLaws.{named_there}
use Rattle.crush_compare.proofs.PositionLaws.{run_is_part}
use Rattle.crush_compare.proofs.WithinLaws.{views_of}

-- A RUN ends at or before the end of the list
deeper_few : (depth : ℕ) (ss : List WalkStepData) → deeper depth ss ≤ length ss
deeper_few depth [] = omega arith
deeper_few depth (s ∷ ss) = by_test (nat_lt depth s.depth) (deeper_few depth ss) where
  by_test : (b : Bool) → deeper depth ss ≤ length ss → (if b then deeper depth ss + 1 else 0) ≤ suc (length ss)
  by_test true few = omega (arith, few)
  by_test false few = omega arith

ends_within : (ss : List WalkStepData) (at : ℕ) → at < length ss → at + run_length (drop at ss) ≤ length ss
ends_within [] at lt = absurd (omega (arith, lt))
ends_within (s ∷ ss) zero lt = let few = deeper_few s.depth ss in omega (arith, few)
ends_within (s ∷ ss) (suc at) lt = let few = ends_within ss at (omega (arith, lt)) in omega (arith, few)

-- a position at which a list has no element is not less than the list's length
nothing_there : {X : Type 0} (xs : List X) (k : ℕ) → slice_get xs k ≡ None → length xs ≤ k
nothing_there [] k is = omega arith
nothing_there (x ∷ xs) zero is = absurd cc
nothing_there (x ∷ xs) (suc k) is = let more = nothing_there xs k is in omega (arith, more)

not_within : (from to k : ℕ) → to ≤ k → (nat_le from k && nat_lt k to) ≡ false
not_within from to k past = grind (arith, nat_tests, past)

abbrev empty : Run
empty = record { from = 0; to = 0 }

-- THE POSITIONS of an item and of all items below it are the run that starts at the item's position, if the search has found the item
module _ {A : Type 0} (t : List Row) (xs : List (Item A)) (l : Lawful t) (has : HasEntries t (map item_entry xs)) (tree : map item_step xs ≡ tree_rows t) (i : ItemId) where
  abbrev es : List EntryData
  es = map item_entry xs

  at_run : (at : ℕ) (run : Run) (r : Row) → row_of t i ≡ Some r → slice_get es at ≡ Some (row_entry t i r) → run.from ≡ at → run.to ≡ at + run_length (drop at (map item_step xs)) → slice_range (tree_rows t) run.from run.to ≡ first_with_below t (drop at (tree_rows t))
      → (k : ℕ) → is_within run (Some k) ≡ option_map_or (λ (x : ItemData). is_at t i x.view.id) (item_at es (Some k)) false
  at_run at run r found here from to range k = by_entry (slice_get es k) refl where
    few : run.to ≤ length es
    few =
        let within : at < length xs = omega (arith, slice_get_within es at (row_entry t i r) here, length-map xs item_entry) in
        let ends = ends_within (map item_step xs) at (omega (arith, within, length-map xs item_step)) in
        omega (arith, ends, to, length-map xs item_step, length-map xs item_entry)

    by_entry : (o : Option EntryData) → slice_get es k ≡ o → is_within run (Some k) ≡ option_map_or (λ (x : ItemData). is_at t i x.view.id) (option_map (λ (e : EntryData). e.item) o) false
    by_entry None is = not_within run.from run.to k (let past = nothing_there es k is in omega (arith, past, few))
    by_entry (Some e) is =
        run_is_part t es run.from run.to k (row_entry t i r) e l has (views_of xs ∙ ap (map (λ (s : WalkStepData). s.item)) tree) (ap (slice_get es) from ∙ here) is (range ∙ ap (λ m. first_with_below t (drop m (tree_rows t))) (sym from))
        ∙ ap (λ j. is_at t j (entry_id e)) (row_id i t r found)

  pub found_run : (p : Place) (run : Run) → option_map (entry_at es) (Some p) ≡ option_map Some (entry_of t i) → run.from ≡ p.at → run.to ≡ p.at + run_length (drop p.at (map item_step xs)) → slice_range (tree_rows t) run.from run.to ≡ first_with_below t (drop p.at (tree_rows t))
      → AreAt i t es run
  found_run p run found from to range there = by_position (by_row (row_of t i) refl there found) where
    by_row : (o : Option Row) → row_of t i ≡ o → is_some o ≡ true → Some (slice_get es p.at) ≡ option_map Some (option_map (row_entry t i) o) → (r : Row) × (row_of t i ≡ Some r) × (slice_get es p.at ≡ Some (row_entry t i r))
    by_row None is has_row e = absurd cc
    by_row (Some r) is has_row e = (r, is, cc)

    by_position : (r : Row) × (row_of t i ≡ Some r) × (slice_get es p.at ≡ Some (row_entry t i r)) → (at : Option ℕ) → is_within run at ≡ option_map_or (λ (x : ItemData). is_at t i x.view.id) (item_at es at) false
    by_position own None = refl
    by_position own (Some k) = at_run p.at run own.0 own.1 own.2 from to range k

  -- the search by id finds each item that the table has
  pub not_found : option_map (entry_at es) None ≡ option_map Some (entry_of t i) → AreAt i t es empty
  not_found found there = absurd (by_row (row_of t i) there found) where
    by_row : (o : Option Row) → is_some o ≡ true → None ≡ option_map Some (option_map (row_entry t i) o) → ⊥
    by_row None has_row e = cc
    by_row (Some r) has_row e = cc

-- THE PART of a name has the item with this name and the items below it, or nothing if no item has the name
pub named_part : (t : List Row) (n : List ℕ) (top : ItemId) (es : List EntryData) (run : Run) → Lawful t → Some top ≡ id_named t n → AreAt top t es run → IsPartOf n t es run
named_part t n top es run l found are at =
    are (named_there t n top l.ids (sym found)) at ∙ ap (λ (o : Option ItemId). option_map_or (λ (x : ItemData). option_map_or (λ j. is_at t j x.view.id) o false) (item_at es at) false) found

pub no_part : (t : List Row) (n : List ℕ) (es : List EntryData) → None ≡ id_named t n → IsPartOf n t es empty
no_part t n es found at = empty_run at ∙ nothing (item_at es at) ∙ ap (λ (o : Option ItemId). option_map_or (λ (x : ItemData). option_map_or (λ j. is_at t j x.view.id) o false) (item_at es at) false) found where
  empty_run : (at : Option ℕ) → is_within empty at ≡ false
  empty_run None = refl
  empty_run (Some k) = not_within 0 0 k (omega arith)

  nothing : (o : Option ItemData) → false ≡ option_map_or (λ (x : ItemData). false) o false
  nothing None = refl
  nothing (Some x) = refl

-- THE PAIRS that have a position in the part of at least one map
kept_seen : {X Y : Type 0} (f : X → Bool) (h : Y → Bool) (g : X → Y) → ((x : X) → f x ≡ h (g x)) → (xs : List X) → map g (filter f xs) ≡ filter h (map g xs)
kept_seen f h g each [] = refl
kept_seen f h g each (x ∷ xs) = by_test (kept_seen f h g each xs) (f x) ∙ ap (λ b. if b then g x ∷ filter h (map g xs) else filter h (map g xs)) (each x) where
  by_test : map g (filter f xs) ≡ filter h (map g xs) → (b : Bool) → map g (if b then x ∷ filter f xs else filter f xs) ≡ (if b then g x ∷ filter h (map g xs) else filter h (map g xs))
  by_test rest true = ap (λ l. g x ∷ l) rest
  by_test rest false = rest

either : (a b : Bool) → (a || b) ≡ (b || a)
either true true = refl
either true false = refl
either false true = refl
either false false = refl

pub kept_pairs : (n : List ℕ) (t u : List Row) (es fs : List EntryData) (before after : Run) → IsPartOf n t es before → IsPartOf n u fs after → (ps : List Pair) → map (items_at es fs) (filter (has_item_within before after) ps) ≡ filter (is_in_part n t u) (map (items_at es fs) ps)
kept_pairs n t u es fs before after old new ps =
    kept_seen (has_item_within before after) (is_in_part n t u) (items_at es fs) (λ (p : Pair). either (is_within before p.before) (is_within after p.after) ∙ (λ i. new p.after i || old p.before i)) ps
