-- Lemmas about the weight of the bucket that a rule takes, if the bucket is looked up by its name.
use Rattle.std.proofs.Common.{◌≡◌, ℕ, List, ap, sym, refl}
use Rattle.std.specs.Prelude.{Option, None, Some, is_some, if◌then◌else◌, option_and_then, unwrap_or}
use Rattle.std.specs.Option.{option_map}
use Rattle.crush_units.specs.declared.id.ItemId.TheVariants.{Bucket}
use Rattle.crush_model.specs.Classes.{class_sum}
use Rattle.crush_model.specs.Lawful.{Lawful}
use Rattle.crush_model.specs.Table.{Row, row_of, name_of, id_named, item_weight}
use Rattle.crush_model.proofs.NameColumn.{id_named-by}
use Rattle.crush_since.specs.Emptied.{weight_as, taken_weight}

-- a bucket that the table has is the item with the bucket's name
pub named_taken : (t : List Row) (b : ℕ) (n : List ℕ) (c : Option (List ℕ)) → Lawful t → Some n ≡ name_of t (Bucket b) → option_and_then (weight_as t c) (id_named t n) ≡ weight_as t c (Bucket b)
named_taken t b n c l found = ap (option_and_then (weight_as t c)) (id_named-by t (Bucket b) n l.names (sym found))

-- a bucket that the table doesn't have weighs nothing
pub absent_taken : (t : List Row) (b : ℕ) (c : Option (List ℕ)) → None ≡ name_of t (Bucket b) → 0 ≡ taken_weight t b c
absent_taken t b None none = by_row (row_of t (Bucket b)) none where
  by_row : (o : Option Row) → None ≡ option_map (λ (r : Row). r.name) o → 0 ≡ unwrap_or (option_map (item_weight t (Bucket b)) (option_map (λ (r : Row). r.weight) o)) 0
  by_row None e = refl
  by_row (Some r) e = absurd cc
absent_taken t b (Some k) none = by_row (row_of t (Bucket b)) none where
  by_row : (o : Option Row) → None ≡ option_map (λ (r : Row). r.name) o → 0 ≡ unwrap_or (if is_some o then Some (class_sum t (Bucket b) k) else None) 0
  by_row None e = refl
  by_row (Some r) e = absurd cc
