-- Proves that if items are matched by ids, the lines of the pairs are the lines of the ids, and that a pair has a line if and only if something differs in it.
use Rattle.std.proofs.Common.{◌≡◌, ℕ, zero, suc, ◌+◌, ◌<◌, Bool, true, false, List, [], ◌∷◌, ◌++◌, length, get_or, take, map, ap, sym, ◌∙◌, refl, arith}
use Rattle.std.specs.Prelude.{◌||◌, Option, None, Some, flat_map, is_some, if◌then◌else◌}
use Rattle.std.specs.Cmp.Lexicographic.{pointwise}
use Rattle.std.specs.List.{count_by}
use Rattle.std.specs.Option.{option_map}
use Rattle.crush_units.specs.declared.id.ItemId.{ItemId}
use Rattle.crush_edits.specs.Setting.{SettingData}
use Rattle.crush_model.specs.Count.{one_if}
use Rattle.crush_model.specs.Table.{Row, row_of}
use Rattle.crush_model.proofs.Moved.{row_id}
use Rattle.crush_model.proofs.Reorder.{sum_by-map}
use Rattle.crush_items.specs.ItemData.{ItemData, item_of, row_item}
use Rattle.crush_items.proofs.EntryLaws.{entry_item as item_entered, entry_class_ids}
use Rattle.crush_items.proofs.WalkLaws.{flat-map, more_steps}
use Rattle.crush_compare.specs.Columns.{columns_by_ids, is_some_other}
use Rattle.crush_compare.specs.Difference.{difference_by, if_other, same_class_ids}
use Rattle.crush_compare.specs.IdPairs.{EntryPair, class_ids_of, id_entries, pair_difference}
use Rattle.crush_compare.specs.SameItem.{same_class_id}
use Rattle.crush_compare.specs.declared.difference.Columns.{Columns}
use Rattle.crush_compare.specs.declared.difference.Difference.TheVariants.{Changed}
use Rattle.crush_compare.specs.declared.difference.Report.TheVariants.{Changes}
use Rattle.crush_compare.specs.declared.identity.Identity.TheVariants.{Ids}
use Rattle.crush_compare.proofs.ColumnLaws.{some_column}
use Rattle.crush_since.specs.Changes.{has_some}
use Rattle.crush_since.specs.ItemParts.{item_line, parts}
use Rattle.crush_since.specs.PairLines.{entry_item, meets, pair_line, pairs_tally, seen_line}
use Rattle.crush_since.specs.Since.{id_line, plain_map}
use Rattle.crush_since.specs.Tallies.{is_made, is_removed, is_renamed, is_moved, is_reweighed, is_reclassed, tally_of, tally_with}
use Rattle.crush_since.specs.declared.since.tally.Tally.{Tally}
use Rattle.crush_since.proofs.AskedLaws.{some_of_both}
use Rattle.crush_since.proofs.TallyLaws.{count_more}
use Rattle.crush_since.proofs.ToldLaws.{both_told, line_told}

-- THE LINE OF AN ID is the line of its pair
line_of_id : (s p : SettingData) (t u : List Row) (i : ItemId) (same : Bool) → seen_line s p (item_of t i) (item_of u i) same ≡ item_line s p i (item_of t i) (item_of u i) same
line_of_id s p t u i same = by (row_of t i) (row_of u i) refl refl where
  by : (before after : Option Row) → row_of t i ≡ before → row_of u i ≡ after
      → seen_line s p (option_map (row_item t) before) (option_map (row_item u) after) same ≡ item_line s p i (option_map (row_item t) before) (option_map (row_item u) after) same
  by before (Some r) was is = ap (λ j. item_line s p j (option_map (row_item t) before) (Some (row_item u r)) same) (row_id i u r is)
  by None None was is = refl
  by (Some r) None was is = ap (λ j. item_line s p j (Some (row_item t r)) None same) (row_id i t r was)

pub line_of_pair : (s p : SettingData) (t u : List Row) (i : ItemId) → pair_line s p (id_entries t u i) ≡ id_line (plain_map s t) (plain_map p u) i
unfolding pair_line id_line
line_of_pair s p t u i =
    (λ k. seen_line s p (item_entered t i k) (item_entered u i k) (pointwise same_class_id (entry_class_ids t i k) (entry_class_ids u i k)))
    ∙ line_of_id s p t u i (same_class_ids t u i)

each_line : (s p : SettingData) (t u : List Row) (ids : List ItemId) → flat_map (pair_line s p) (map (id_entries t u) ids) ≡ flat_map (id_line (plain_map s t) (plain_map p u)) ids
each_line s p t u [] = refl
each_line s p t u (i ∷ ids) = λ k. line_of_pair s p t u i k ++ each_line s p t u ids k

-- THE LINES of the pairs are the lines of the ids
pub lines_of_ids : {X : Type 0} (f : X → EntryPair) (s p : SettingData) (t u : List Row) (ps : List X) (ids : List ItemId) → map f ps ≡ map (id_entries t u) ids
    → flat_map (λ x. pair_line s p (f x)) ps ≡ flat_map (id_line (plain_map s t) (plain_map p u)) ids
lines_of_ids f s p t u ps ids are = flat-map (pair_line s p) f ps ∙ ap (flat_map (pair_line s p)) are ∙ each_line s p t u ids

-- A LINE exists if and only if something differs
some_if_other : (c : Columns) → is_some (if_other c) ≡ is_some_other c
some_if_other c = by (is_some_other c) where
  by : (b : Bool) → is_some (if b then Some (Changed c) else None) ≡ b
  by true = refl
  by false = refl

pub pair_told : (s p : SettingData) (e : EntryPair) → has_some (pair_line s p e) ≡ is_some (pair_difference Ids Changes s p e)
unfolding pair_line
pair_told s p e = by (entry_item e.before) (entry_item e.after) where
  same : Bool
  same = pointwise same_class_id (class_ids_of e.before) (class_ids_of e.after)

  by : (before after : Option ItemData) → has_some (seen_line s p before after same) ≡ is_some (difference_by (λ a b. columns_by_ids Changes a b same) before after)
  by None None = refl
  by None (Some b) = line_told b.view.name b.view.id (parts s p None (Some b) same)
  by (Some a) None = line_told a.view.name a.view.id (parts s p (Some a) None same)
  by (Some a) (Some b) = sym (both_told s p b.view.id a b same) ∙ sym (some_column a b same) ∙ sym (some_if_other (columns_by_ids Changes a b same))

-- an element that is read from a list is the element at this index, whatever default value is used
pub read_again : {X : Type 0} (xs : List X) (i : ℕ) (d : X) → i < length xs → get_or xs i d ≡ get_or xs i (get_or xs i d)
read_again [] i d lt = absurd (omega (arith, lt))
read_again (x ∷ xs) zero d lt = refl
read_again (x ∷ xs) (suc i) d lt = read_again xs i d (omega (arith, lt))

-- if one element gives a text that isn't empty, the text of all elements isn't empty
pub some_here : {X Z : Type 0} (line : X → List Z) (xs : List X) (i : ℕ) (x : X) (b : Bool) → i < length xs → x ≡ get_or xs i x → b ≡ has_some (line x) → b ≡ true → true ≡ has_some (flat_map line xs)
some_here line [] i x b lt is told some = absurd (omega (arith, lt))
some_here line (y ∷ xs) zero x b lt is told some = sym (some_of_both (line y) (flat_map line xs) ∙ ap (λ c. c || has_some (flat_map line xs)) (ap (λ z. has_some (line z)) (sym is) ∙ sym told ∙ some))
some_here line (y ∷ xs) (suc i) x b lt is told some =
    or_right (has_some (line y)) (some_here line xs i x b (omega (arith, lt)) is told some) ∙ sym (some_of_both (line y) (flat_map line xs)) where
      or_right : (a : Bool) {c : Bool} → true ≡ c → true ≡ (a || c)
      or_right true h = refl
      or_right false h = h

-- one more element that gives an empty text leaves the text empty
pub none_more : {X Z : Type 0} (line : X → List Z) (xs : List X) (i : ℕ) (x : X) (b : Bool) → i < length xs → x ≡ get_or xs i x → has_some (flat_map line (take i xs)) ≡ false → b ≡ has_some (line x) → b ≡ false
    → has_some (flat_map line (take (i + 1) xs)) ≡ false
none_more line xs i x b lt is none told own =
    ap has_some (more_steps line xs i x lt is) ∙ some_of_both (flat_map line (take i xs)) (line x) ∙ (λ k. none k || (sym told ∙ own) k)

-- THE COUNTS after one more pair
pub pairs_more : {X : Type 0} (f : X → EntryPair) (ps : List X) (i : ℕ) (x : X) (n m : Tally) → i < length ps → x ≡ get_or ps i x → n ≡ pairs_tally f (take i ps) → m ≡ tally_with n (entry_item (f x).before) (entry_item (f x).after)
    → m ≡ pairs_tally f (take (i + 1) ps)
pairs_more f ps i x n m lt is so_far with_it =
    with_it ∙ (λ k. tally_with (so_far k) (entry_item (f x).before) (entry_item (f x).after)) ∙ (λ k. record {
      made = sym (count_more (λ p. meets is_made (f p)) ps i x lt is) k;
      removed = sym (count_more (λ p. meets is_removed (f p)) ps i x lt is) k;
      renamed = sym (count_more (λ p. meets is_renamed (f p)) ps i x lt is) k;
      moved = sym (count_more (λ p. meets is_moved (f p)) ps i x lt is) k;
      reweighed = sym (count_more (λ p. meets is_reweighed (f p)) ps i x lt is) k;
      reclassed = sym (count_more (λ p. meets is_reclassed (f p)) ps i x lt is) k;
    })

-- the counts of the pairs are the counts of the ids
count_ids : {X : Type 0} (test : Option ItemData → Option ItemData → Bool) (f : X → EntryPair) (t u : List Row) (ps : List X) (ids : List ItemId) → map f ps ≡ map (id_entries t u) ids
    → count_by (λ p. meets test (f p)) ps ≡ count_by (λ i. test (item_of t i) (item_of u i)) ids
count_ids test f t u ps ids are =
    sym (sum_by-map (λ e. one_if (meets test e)) f ps) ∙ ap (count_by (meets test)) are ∙ sum_by-map (λ e. one_if (meets test e)) (id_entries t u) ids
    ∙ (λ k. count_by (λ i. test (item_entered t i k) (item_entered u i k)) ids)

pub tally_of_ids : {X : Type 0} (f : X → EntryPair) (t u : List Row) (ps : List X) (ids : List ItemId) → map f ps ≡ map (id_entries t u) ids → pairs_tally f ps ≡ tally_of t u ids
tally_of_ids f t u ps ids are = λ k. record {
  made = count_ids is_made f t u ps ids are k;
  removed = count_ids is_removed f t u ps ids are k;
  renamed = count_ids is_renamed f t u ps ids are k;
  moved = count_ids is_moved f t u ps ids are k;
  reweighed = count_ids is_reweighed f t u ps ids are k;
  reclassed = count_ids is_reclassed f t u ps ids are k;
}
