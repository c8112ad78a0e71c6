-- Lemmas about items that are matched by their names, and about the items in the order of a table's tree.
use Rattle.std.proofs.Common.{◌≡◌, ℕ, ◌<◌, true, false, List, [], ◌∷◌, ◌++◌, length, get_or, map, ap, subst, ◌∙◌, refl, sym, append-nil}
use Rattle.std.specs.Prelude.{All, Bool, Option, None, Some, flat_map, is_some, if◌then◌else◌, option_and_then}
use Rattle.std.specs.List.{slice_get}
use Rattle.std.specs.Option.{option_map}
use Rattle.std.proofs.lemmas.List.{map_push}
use Rattle.std.proofs.lemmas.List.Elements.{All-head, All-tail}
use Rattle.std.proofs.lemmas.Option.{slice_get-map, slice_get_read}
use Rattle.crush_units.specs.declared.id.ItemId.{ItemId}
use Rattle.crush_model.specs.Table.{Row, id_named, is_there, row_of}
use Rattle.crush_model.proofs.Found.{Distinct}
use Rattle.crush_model.proofs.NameColumn.{name_of-found}
use Rattle.crush_nodes.specs.Views.{ViewData}
use Rattle.crush_items.specs.ById.{entry_at}
use Rattle.crush_items.specs.Entries.{EntryData, entry_of, row_entry}
use Rattle.crush_items.specs.ItemData.{ItemData, item_of, row_item, with_holder}
use Rattle.crush_items.specs.Items.{HasEntries, entry_id, item_entry, item_step}
use Rattle.crush_items.specs.declared.by_id.Place.{Place}
use Rattle.crush_items.specs.declared.items.Item.{Item}
use Rattle.crush_items.proofs.EntryLaws.{entry_item}
use Rattle.crush_compare.specs.Named.{are_one, counterpart, if_one}
use Rattle.crush_items.specs.Tree.{tree_rows}
use Rattle.crush_compare.specs.NamedPairs.{new_pair, new_pairs, old_pair, old_pairs, pairs, step_item}
use Rattle.crush_compare.specs.PairItems.{item_at}
use Rattle.crush_compare.specs.Pairs.{position}
use Rattle.crush_compare.specs.declared.identity.Devices.{Devices}

-- if a table finds an id for a name, the table has this id
pub named_there : (t : List Row) (n : List ℕ) (i : ItemId) → Distinct t → id_named t n ≡ Some i → is_there t i ≡ true
named_there t n i d e = by_row (row_of t i) refl (name_of-found t i n d e) where
  by_row : (o : Option Row) → row_of t i ≡ o → option_map (λ (r : Row). r.name) o ≡ Some n → is_some (row_of t i) ≡ true
  by_row None q h = absurd cc
  by_row (Some r) q h = ap is_some q

-- whether an item has a counterpart depends only on the ids of the two items with the same name
module _ (by : Devices) (t : List Row) (v w : ViewData) (h : Option (List ℕ)) where
  seen_counterpart : v ≡ w → (o : Option ItemId) → o ≡ id_named t v.name → is_some (option_and_then (if_one by t v.id) o) ≡ is_some (counterpart by t (record { view = w; holder = h }))
  unfolding counterpart
  seen_counterpart same o is = ap (λ (i : Option ItemId). is_some (option_and_then (if_one by t v.id) i)) is ∙ ap (λ (x : ViewData). is_some (option_and_then (if_one by t x.id) (id_named t x.name))) same

  by_test : (j : ItemId) (b : Bool) → is_there t j ≡ true → b ≡ is_some (if b then option_map (row_item t) (row_of t j) else None)
  by_test j false there = refl
  by_test j true there = some_row (row_of t j) there where
    some_row : (o : Option Row) → is_some o ≡ true → true ≡ is_some (option_map (row_item t) o)
    some_row None is = absurd cc
    some_row (Some r) is = refl

  pub has_one : (j : ItemId) → Distinct t → v ≡ w → Some j ≡ id_named t v.name → are_one by v.id j ≡ is_some (counterpart by t (record { view = w; holder = h }))
  has_one j d same is = by_test j (are_one by v.id j) (named_there t v.name j d (sym is)) ∙ seen_counterpart same (Some j) is

  pub has_none : v ≡ w → None ≡ id_named t v.name → false ≡ is_some (counterpart by t (record { view = w; holder = h }))
  has_none same is = seen_counterpart same None is

-- the item at the place of an id is what the table says about this id
pub item_found : (t : List Row) (es : List EntryData) (i : ItemId) (o : Option Place) → option_map (entry_at es) o ≡ option_map Some (entry_of t i) → item_at es (position o) ≡ item_of t i
item_found t es i None found = by_entry (entry_of t i) found ∙ entry_item t i where
  by_entry : (e : Option EntryData) → None ≡ option_map Some e → None ≡ option_map (λ (x : EntryData). x.item) e
  by_entry None is = refl
  by_entry (Some e) is = absurd cc
item_found t es i (Some p) found = ap (option_map (λ (x : EntryData). x.item)) (by_entry (entry_of t i) found) ∙ entry_item t i where
  by_entry : (e : Option EntryData) → Some (entry_at es p) ≡ option_map Some e → entry_at es p ≡ e
  by_entry None is = absurd cc
  by_entry (Some e) is = cc

-- AN ENTRY OF A TABLE already has the name of its parent, which `with_holder` adds
pub told_item : (t : List Row) (e : EntryData) → entry_of t (entry_id e) ≡ Some e → with_holder t e.item.view ≡ e.item
told_item t e told = by_row (row_of t (entry_id e)) told where
  by_row : (o : Option Row) → option_map (row_entry t (entry_id e)) o ≡ Some e → with_holder t e.item.view ≡ e.item
  by_row None is = absurd cc
  by_row (Some r) is = let same : row_entry t (entry_id e) r ≡ e = cc in subst (λ (x : EntryData). with_holder t x.item.view ≡ x.item) same refl

-- a function g gives the same over the items of a list as over the steps of the tree that visit these items
pub of_tree : {A : _} {Z : Type 0} (t : List Row) (g : ItemData → List Z) (xs : List (Item A)) → All (λ e. entry_of t (entry_id e) ≡ Some e) (map item_entry xs)
    → flat_map (λ x. g (item_entry x).item) xs ≡ flat_map (λ s. g (step_item t s)) (map item_step xs)
of_tree t g [] told = refl
of_tree t g (x ∷ xs) told =
    (λ i. g (sym (told_item t (item_entry x) (All-head (λ e. entry_of t (entry_id e) ≡ Some e) (item_entry x) (map item_entry xs) told)) i)
    ++ of_tree t g xs (All-tail (λ e. entry_of t (entry_id e) ≡ Some e) (item_entry x) (map item_entry xs) told) i)

-- the item at the position `at` of a list is the list's element with this index
pub item_here : {A : _} (xs : List (Item A)) (i at : ℕ) (x : Item A) → i < length xs → x ≡ get_or xs i x → at ≡ i → item_at (map item_entry xs) (Some at) ≡ Some (item_entry x).item
item_here xs i at x lt is same =
    ap (λ k. option_map (λ (e : EntryData). e.item) (slice_get (map item_entry xs) k)) same
    ∙ ap (option_map (λ (e : EntryData). e.item)) (slice_get-map item_entry xs i ∙ ap (option_map item_entry) (slice_get_read xs (length xs) i x refl lt is))

-- a list grows by one element if the test b is true
pub more_if : {P Q : Type 0} (f : P → Q) (b : Bool) (ps : List P) (p : P) (q : Q) → f p ≡ q → map f (ps ++ (if b then p ∷ [] else [])) ≡ map f ps ++ (if b then q ∷ [] else [])
more_if f true ps p q is = map_push f ps p ∙ ap (λ z. map f ps ++ z ∷ []) is
more_if f false ps p q is = ap (map f) (append-nil ps) ∙ sym (append-nil (map f ps))

-- the pairs that the code appends for two lists of items, each in the order of its table's tree, are those that `pairs` defines
pub pairs_listed : {A B : _} (by : Devices) (t u : List Row) (old : List (Item A)) (new : List (Item B)) → HasEntries t (map item_entry old) → HasEntries u (map item_entry new) → map item_step old ≡ tree_rows t → map item_step new ≡ tree_rows u
    → flat_map (λ x. new_pair by None t u (item_entry x).item) new ++ flat_map (λ x. old_pair by None t u (item_entry x).item) old ≡ pairs by None t u
unfolding pairs new_pairs old_pairs
pairs_listed by t u old new has_t has_u tree_t tree_u =
    λ i. (of_tree u (new_pair by None t u) new has_u.told ∙ ap (flat_map (λ s. new_pair by None t u (step_item u s))) tree_u) i
    ++ (of_tree t (old_pair by None t u) old has_t.told ∙ ap (flat_map (λ s. old_pair by None t u (step_item t s))) tree_t) i
