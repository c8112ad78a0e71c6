-- The edits that change names: Swap and Rename.
use Rattle.std.specs.Prelude.{ℕ, List, [], ◌∷◌, Bool, not, ◌&&◌, ◌||◌}
use Rattle.crush_model.specs.Table.{Row, id_named, is_named}
use Rattle.crush_model.specs.Columns.{set_name, swap_buckets}
use Rattle.crush_model.specs.Table.{are_nested}
use Rattle.crush_edits.specs.declared.refusal.Refusal.{Refusal}
use Rattle.crush_edits.specs.declared.refusal.Refusal.TheVariants.{NoSuchItem, NameTaken, NotABucket, Nested, NotDirectory, AlreadyRenamed}
use Rattle.crush_edits.specs.Stops.{bucket_named}
use Rattle.crush_edits.specs.Answer.{After, kept, on_some, meets, is_a_device, sum_test}

-- SWAP: exchanges the names of the two buckets, and their items: each row whose parent is one of the two buckets gets the other bucket as its parent
abbrev pub after_swap : List Row → List ℕ → List ℕ → After
after_swap t m n = on_some t (bucket_named t m) (λ a. on_some t (bucket_named t n) (λ b. kept (swap_buckets a b t)))

-- whether the two buckets are the same, or one is below the other
abbrev pub names_nested : List Row → List ℕ → List ℕ → Bool
names_nested t m n = meets (λ a. meets (are_nested t a) (bucket_named t n)) (bucket_named t m)

-- the refusals of Swap with their tests: one of the names isn't the name of an item; one of the names is the name of a device; the buckets are the same or nested; a sum is too large afterwards
abbrev pub swap_tests : List Row → List ℕ → List ℕ → After → List (Refusal × Bool)
swap_tests t m n a =
    (NoSuchItem, not (is_named t m) || not (is_named t n)) ∷ ((NotABucket, is_a_device (id_named t m) || is_a_device (id_named t n)) ∷ ((Nested, names_nested t m n) ∷ (sum_test a ∷ [])))

-- RENAME: changes the name of the item with the name `from` to `to`
abbrev pub after_rename : List Row → List ℕ → List ℕ → After
after_rename t from to = on_some t (id_named t from) (λ i. kept (set_name i to t))

-- the refusals of Rename with their tests: no item has either name; each of the two names is the name of an item; the item to be renamed is a device; an item has the new name, but none has the old name
abbrev pub rename_tests : List Row → List ℕ → List ℕ → List (Refusal × Bool)
rename_tests t from to =
    (NoSuchItem, not (is_named t from) && not (is_named t to)) ∷ ((NameTaken, is_named t from && is_named t to) ∷ ((NotDirectory, is_a_device (id_named t from)) ∷ ((AlreadyRenamed, not (is_named t from) && is_named t to) ∷ [])))
