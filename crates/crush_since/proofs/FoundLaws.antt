-- Lemmas about what is found for an id in two maps, and about the row of the tree that is built from it.
use Rattle.std.proofs.Common.{◌≡◌, ℕ, Bool, List, ap, sym, subst, ◌∙◌, refl}
use Rattle.std.specs.Prelude.{Option, None, Some, is_some, option_and_then}
use Rattle.std.specs.Cmp.Lexicographic.{pointwise}
use Rattle.std.specs.List.{slice_get}
use Rattle.std.specs.Option.{option_map}
use Rattle.crush_units.specs.declared.id.ItemId.{ItemId}
use Rattle.crush_edits.specs.Setting.{SettingData}
use Rattle.crush_model.specs.Stands.{Stands}
use Rattle.crush_model.specs.Table.{Row, row_of, is_there}
use Rattle.crush_items.specs.ById.{entry_at}
use Rattle.crush_items.specs.Entries.{EntryData}
use Rattle.crush_items.specs.ItemData.{ItemData, item_of, row_item}
use Rattle.crush_items.specs.declared.by_id.Place.{Place}
use Rattle.crush_items.proofs.EntryLaws.{entry_item, entry_class_ids}
use Rattle.crush_compare.specs.IdPairs.{EntryPair, class_ids_of, id_entries}
use Rattle.crush_compare.specs.Pairs.{position}
use Rattle.crush_since.specs.Changes.{change_at, has_some, is_listed}
use Rattle.crush_since.specs.ItemParts.{item_line, same_class_id}
use Rattle.crush_since.specs.SeenChange.{AreTables, entries_change}
use Rattle.crush_since.specs.Since.{plain_map, id_line}
use Rattle.crush_since.specs.declared.changes.both.Both.{Both}

-- the entry at the position of the place that a search has found is the entry that was found
pub placed : (es : List EntryData) (r : Option Place) (o : Option EntryData) → option_map (entry_at es) r ≡ option_map Some o → option_and_then (slice_get es) (position r) ≡ o
placed es None None found = refl
placed es None (Some e) found = absurd cc
placed es (Some p) None found = absurd cc
placed es (Some p) (Some e) found = cc

-- the old map, from which the sorted list of buckets comes, is a map of the table t (`Stands`)
pub kept : {A B : Type 0} (t u : List Row) (both : Both A B) → AreTables t u both → Stands both.buckets t
kept t u both tables = subst (λ f. Stands f t) (sym tables.buckets) tables.old

-- if what was found (o) is seen as q, then o has a value if and only if q has a value
pub some_found : {X Y : Type 0} (see : X → Y) (o : Option X) (q : Option Y) → option_map see o ≡ q → is_some o ≡ is_some q
some_found {X} {Y} see o q is = by_found o ∙ ap is_some is where
  by_found : (p : Option X) → is_some p ≡ is_some (option_map see p)
  by_found None = refl
  by_found (Some x) = refl

-- whether an item is in the table
pub seen_there : {X : Type 0} (u : List Row) (i : ItemId) (see : X → ItemData) (found : Option X) → option_map see found ≡ item_of u i → is_some found ≡ is_there u i
seen_there u i see found is = some_found see found (item_of u i) is ∙ by_row (row_of u i) where
  by_row : (o : Option Row) → is_some (option_map (row_item u) o) ≡ is_some o
  by_row None = refl
  by_row (Some r) = refl

-- the row that is built from what was found is the row that the tables define
pub change_found : (t u : List Row) (e : EntryPair) (stands : Bool) (depth : ℕ) (i : ItemId) → e ≡ id_entries t u i → entries_change e stands depth i ≡ change_at t u stands depth i
change_found t u e stands depth i is =
    ap (λ x. entries_change x stands depth i) is
    ∙ (λ k. record { id = i; depth = depth; stands = stands; was = entry_item t i k; is = entry_item u i k; same_class_ids = pointwise same_class_id (entry_class_ids t i k) (entry_class_ids u i k) })

-- the item has a line if and only if the tables define one
pub told_found : (s p : SettingData) (t u : List Row) (e : EntryPair) (i : ItemId) → e ≡ id_entries t u i
    → has_some (item_line s p i (option_map (λ (x : EntryData). x.item) e.before) (option_map (λ (x : EntryData). x.item) e.after) (pointwise same_class_id (class_ids_of e.before) (class_ids_of e.after))) ≡ is_listed (plain_map s t) (plain_map p u) i
unfolding is_listed id_line
told_found s p t u e i is =
    ap (λ (x : EntryPair). has_some (item_line s p i (option_map (λ (y : EntryData). y.item) x.before) (option_map (λ (y : EntryData). y.item) x.after) (pointwise same_class_id (class_ids_of x.before) (class_ids_of x.after)))) is
    ∙ (λ k. has_some (item_line s p i (entry_item t i k) (entry_item u i k) (pointwise same_class_id (entry_class_ids t i k) (entry_class_ids u i k))))
