-- The edits that remove or add one row: Remove and AddBucket.
use Rattle.std.specs.Prelude.{ℕ, List, [], ◌∷◌, ◌++◌, None, Bool, not, ◌==◌, length, is_none, unwrap_or}
use Rattle.crush_model.specs.Table.{Row, id_named, is_named, kids, member, free_ids}
use Rattle.crush_model.specs.Columns.{without_row}
use Rattle.crush_edits.specs.declared.refusal.Refusal.{Refusal}
use Rattle.crush_edits.specs.declared.refusal.Refusal.TheVariants.{NoSuchType, NoSuchItem, NameTaken, WrongType, NotEmpty, InUse}
use Rattle.crush_edits.specs.Setting.{SettingData, kind_number, taken_buckets}
use Rattle.crush_edits.specs.Stops.{StopData, bucket_named}
use Rattle.crush_edits.specs.Put.{NewData, with_ids, chain}
use Rattle.crush_edits.specs.Answer.{After, kept, on_some, meets, room_test}

-- REMOVE: removes the row of the item with the name n
abbrev pub after_remove : List Row → List ℕ → After
after_remove t n = on_some t (id_named t n) (λ i. kept (without_row i t))

-- whether the bucket holds items
abbrev pub holds_items : List Row → ℕ → Bool
holds_items t b = not (length (kids t b) == 0)

-- whether a rule takes the bucket
abbrev pub is_taken_by_rule : SettingData → ℕ → Bool
is_taken_by_rule s b = member b (taken_buckets s)

-- the refusals of Remove with their tests: no item has the name; the item is a bucket that holds items; the item is a bucket that a rule takes
abbrev pub remove_tests : SettingData → List Row → List ℕ → List (Refusal × Bool)
remove_tests s t n = (NoSuchItem, not (is_named t n)) ∷ ((NotEmpty, meets (holds_items t) (bucket_named t n)) ∷ ((InUse, meets (is_taken_by_rule s) (bucket_named t n)) ∷ []))

-- the type number and the name of the new bucket. If the type is unknown, the number is 0, and the edit is refused
abbrev pub added_stop : SettingData → List ℕ → List ℕ → StopData
added_stop s n kind = record { kind = unwrap_or (kind_number s kind) 0; name = n }

-- a list with just the new bucket, which has the first free id
abbrev pub added_bucket : SettingData → List Row → List ℕ → List ℕ → List NewData
added_bucket s t n kind = with_ids (free_ids t 1) (added_stop s n kind ∷ [])

-- ADD BUCKET: appends the row of the new bucket. The new bucket has no parent
abbrev pub after_add_bucket : SettingData → List Row → List ℕ → List ℕ → After
after_add_bucket s t n kind = record { table = t ++ chain (added_bucket s t n kind) None; made = 1 }

-- the refusals of AddBucket with their tests: the type is unknown; an item has the name; the type is type 0; the table after the edit has too many devices or buckets
abbrev pub add_bucket_tests : SettingData → List Row → List ℕ → List ℕ → After → List (Refusal × Bool)
add_bucket_tests s t n kind a = (NoSuchType, is_none (kind_number s kind)) ∷ ((NameTaken, is_named t n) ∷ ((WrongType, meets (λ k. k == 0) (kind_number s kind)) ∷ (room_test a ∷ [])))
