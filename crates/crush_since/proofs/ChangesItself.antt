-- Proves that if a map is compared with itself, the tree that shows what has changed has no rows.
use Rattle.std.proofs.Common.{◌≡◌, ℕ, zero, suc, ◌+◌, Bool, true, false, List, [], ◌∷◌, ◌++◌, length, map, ap, ◌∙◌, refl}
use Rattle.std.specs.Prelude.{flat_map, filter, All, Option, None, Some, nat_le, is_some, if◌then◌else◌, codes}
use Rattle.std.specs.Option.{option_map, option_map_or}
use Rattle.std.proofs.lemmas.List.Concat.{flat_map-append}
use Rattle.std.proofs.lemmas.List.Elements.{All-head, All-tail}
use Rattle.std.proofs.lemmas.List.Folds.{flat_map-map}
use Rattle.crush_units.specs.declared.id.ItemId.{ItemId}
use Rattle.crush_units.specs.declared.id.ItemId.TheVariants.{Device, Bucket}
use Rattle.crush_edits.specs.Setting.{SettingData}
use Rattle.crush_model.specs.Lawful.{Lawful}
use Rattle.crush_model.specs.Table.{Row, row_of, kids, is_parent, bucket_ids}
use Rattle.crush_model.proofs.Weighs.{All-found}
use Rattle.crush_print.specs.MapText.{put_in, ascending, device_number, root_number, root_numbers}
use Rattle.crush_since.specs.Changes.{change_at, stood_at, left_at, left_from, has_some, is_listed, with_below, stands_at, root_rows, unplaced_rows, change_rows}
use Rattle.crush_since.specs.ChangeText.{heading, rows_text, changes_text}
use Rattle.crush_compare.specs.Equal.{same_option}
use Rattle.crush_items.specs.ItemData.{ItemData, row_item}
use Rattle.crush_since.specs.Since.{plain_map}
use Rattle.crush_since.specs.SinceLaws.{NoRowSinceItself}
use Rattle.crush_print.specs.Tree.{unplaced_number, unplaced_numbers}
use Rattle.crush_print.specs.TreeText.{at_left}
use Rattle.crush_since.proofs.SinceItself.{nothing_of, no_line_of, last_since_itself}
use Rattle.crush_since.proofs.TreeLaws.{nil_left, nil_right}

-- NOTHING: if a function gives nothing for each number of a list, it gives nothing for the sorted list
put_nothing : {Z : Type 0} (g : ℕ → List Z) (n : ℕ) (xs : List ℕ) → g n ≡ [] → flat_map g xs ≡ [] → flat_map g (put_in n xs) ≡ []
put_nothing g n [] here rest = (λ k. here k ++ [])
put_nothing g n (x ∷ xs) here rest = at (nat_le n x) (put_nothing g n xs here (nil_right (g x) (flat_map g xs) rest)) where
  at : (b : Bool) → flat_map g (put_in n xs) ≡ [] → flat_map g (if b then n ∷ (x ∷ xs) else x ∷ put_in n xs) ≡ []
  at true later = (λ k. here k ++ rest k)
  at false later = (λ k. nil_left (g x) (flat_map g xs) rest k ++ later k)

ordered_nothing : {Z : Type 0} (g : ℕ → List Z) (xs : List ℕ) → flat_map g xs ≡ [] → flat_map g (ascending xs) ≡ []
ordered_nothing g [] none = refl
ordered_nothing g (x ∷ xs) none = put_nothing g x (ascending xs) (nil_left (g x) (flat_map g xs) none) (ordered_nothing g xs (nil_right (g x) (flat_map g xs) none))

module _ (t : List Row) where
  abbrev IsFound : Row → Type 0
  IsFound r = row_of t r.id ≡ Some r

  -- each row is in the place that its parent says, so its item has not left this place
  stays : (depth : ℕ) (place : Option ℕ) (r : Row) → IsFound r → same_option r.parent place ≡ true → left_at t t depth place r.id ≡ []
  stays depth place r found here =
      ap (λ z. if z then [] else stood_at t t (length t) depth r.id) (ap (λ o. option_map_or (λ (x : ItemData). same_option x.view.parent place) (option_map (row_item t) o) false) found ∙ here)

  -- no item has left a bucket
  parent_same : (b : ℕ) (p : Option ℕ) → is_parent b p ≡ true → same_option p (Some b) ≡ true
  parent_same b None h = absurd cc
  parent_same b (Some p) h = h

  kids_stay : (depth b : ℕ) (u : List Row) → All IsFound u → flat_map (left_at t t depth (Some b)) (map (λ (r : Row). r.id) (filter (λ (r : Row). is_parent b r.parent) u)) ≡ []
  kids_stay depth b [] found = refl
  kids_stay depth b (r ∷ u) found = at (is_parent b r.parent) refl (kids_stay depth b u (All-tail IsFound r u found)) where
    at : (z : Bool) → is_parent b r.parent ≡ z → flat_map (left_at t t depth (Some b)) (map (λ (x : Row). x.id) (filter (λ (x : Row). is_parent b x.parent) u)) ≡ []
        → flat_map (left_at t t depth (Some b)) (map (λ (x : Row). x.id) (if z then r ∷ filter (λ (x : Row). is_parent b x.parent) u else filter (λ (x : Row). is_parent b x.parent) u)) ≡ []
    at true is rest = (λ k. stays depth (Some b) r (All-head IsFound r u found) (parent_same b r.parent is) k ++ rest k)
    at false is rest = rest

  -- no root and no unplaced device has left its place
  top_same : (p : Option ℕ) → is_some p ≡ false → same_option p None ≡ true
  top_same None h = refl
  top_same (Some p) h = absurd cc

  roots_stay : (u : List Row) → All IsFound u → flat_map (λ b. left_at t t 0 None (Bucket b)) (flat_map root_number u) ≡ []
  roots_stay [] found = refl
  roots_stay (r ∷ u) found = flat_map-append (λ b. left_at t t 0 None (Bucket b)) (root_number r) (flat_map root_number u) ∙ (λ k. at (is_some r.parent) refl k ++ roots_stay u (All-tail IsFound r u found) k) where
    own : (i : ItemId) → left_at t t 0 None i ≡ [] → flat_map (λ b. left_at t t 0 None (Bucket b)) (bucket_ids i) ≡ []
    own (Device d) none = refl
    own (Bucket b) none = (λ k. none k ++ [])

    at : (z : Bool) → is_some r.parent ≡ z → flat_map (λ b. left_at t t 0 None (Bucket b)) (if z then [] else bucket_ids r.id) ≡ []
    at true is = refl
    at false is = own r.id (stays 0 None r (All-head IsFound r u found) (top_same r.parent is))

  unplaced_stay : (u : List Row) → All IsFound u → flat_map (λ d. left_at t t 0 None (Device d)) (flat_map unplaced_number u) ≡ []
  unplaced_stay [] found = refl
  unplaced_stay (r ∷ u) found = flat_map-append (λ d. left_at t t 0 None (Device d)) (unplaced_number r) (flat_map unplaced_number u) ∙ (λ k. at (is_some r.parent) refl k ++ unplaced_stay u (All-tail IsFound r u found) k) where
    own : (i : ItemId) → left_at t t 0 None i ≡ [] → flat_map (λ d. left_at t t 0 None (Device d)) (device_number i) ≡ []
    own (Bucket b) none = refl
    own (Device d) none = (λ k. none k ++ [])

    at : (z : Bool) → is_some r.parent ≡ z → flat_map (λ d. left_at t t 0 None (Device d)) (if z then [] else device_number r.id) ≡ []
    at true is = refl
    at false is = own r.id (stays 0 None r (All-head IsFound r u found) (top_same r.parent is))

-- NO ROW for any item of the new map, whatever its depth
module _ (s : SettingData) (t : List Row) (l : Lawful t) where
  untold : (i : ItemId) → is_listed (plain_map s t) (plain_map s t) i ≡ false
  unfolding is_listed
  untold i = ap has_some (no_line_of s t i)

  none_stands : (n depth : ℕ) (i : ItemId) → stands_at (plain_map s t) (plain_map s t) n depth i ≡ []
  unfolding stands_at left_from
  none_stands n depth (Device d) = ap (λ z. with_below z (change_at t t true depth (Device d)) []) (untold (Device d))
  none_stands zero depth (Bucket b) = refl
  none_stands (suc n) depth (Bucket b) =
      (λ k. with_below (untold (Bucket b) k) (change_at t t true depth (Bucket b))
      (nothing_of (stands_at (plain_map s t) (plain_map s t) n (depth + 1)) (none_stands n (depth + 1)) (kids t b) k ++ kids_stay t (depth + 1) b t (All-found t l.ids) k))

  none_left : (f : ℕ → ItemId) (numbers : List ℕ) → flat_map (λ x. left_at t t 0 None (f x)) numbers ≡ [] → left_from t t 0 None (map f (ascending numbers)) ≡ []
  unfolding left_from
  none_left f numbers none = flat_map-map (left_at t t 0 None) f (ascending numbers) ∙ ordered_nothing (λ x. left_at t t 0 None (f x)) numbers none

  no_rows : change_rows (plain_map s t) (plain_map s t) ≡ []
  unfolding change_rows root_rows unplaced_rows root_numbers unplaced_numbers
  no_rows = λ k.
      (nothing_of (λ b. stands_at (plain_map s t) (plain_map s t) (length t) 0 (Bucket b)) (λ b. none_stands (length t) 0 (Bucket b)) (ascending (flat_map root_number t)) k
      ++ none_left Bucket (flat_map root_number t) (roots_stay t t (All-found t l.ids)) k)
      ++ (nothing_of (λ d. stands_at (plain_map s t) (plain_map s t) (length t) 0 (Device d)) (λ d. none_stands (length t) 0 (Device d)) (ascending (flat_map unplaced_number t)) k
      ++ none_left Device (flat_map unplaced_number t) (unplaced_stay t t (All-found t l.ids)) k)

headings : (s : SettingData) → rows_text s s [] ≡ codes "ID  CLASS  WAS  WEIGHT  TYPE NAME\n"
unfolding rows_text heading at_left
headings s = refl

pub no_row_since_itself : NoRowSinceItself
unfolding changes_text
no_row_since_itself s t l = λ k. (ap (rows_text s s) (no_rows s t l) ∙ headings s) k ++ last_since_itself s t k
