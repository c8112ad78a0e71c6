-- The edits that change classes: SetClass and RemoveClass.
use Rattle.std.specs.Prelude.{ℕ, List, [], ◌∷◌, Some, None, Bool, not, bytes_eq}
use Rattle.crush_units.specs.declared.id.ItemId.{ItemId}
use Rattle.crush_model.specs.Table.{Row, id_named, is_named, class_of}
use Rattle.crush_model.specs.Columns.{set_class}
use Rattle.crush_edits.specs.declared.refusal.Refusal.{Refusal}
use Rattle.crush_edits.specs.declared.refusal.Refusal.TheVariants.{NoSuchItem, NotADevice, ClassBound}
use Rattle.crush_edits.specs.Answer.{After, kept, on_some, meets, is_a_bucket}

-- SET CLASS: sets the class of the item with the name n to c
abbrev pub after_set_class : List Row → List ℕ → List ℕ → After
after_set_class t n c = on_some t (id_named t n) (λ i. kept (set_class i (Some c) t))

-- whether the item has a class, and this class isn't c
abbrev pub is_bound : List Row → List ℕ → ItemId → Bool
is_bound t c i = meets (λ k. not (bytes_eq k c)) (class_of t i)

-- the refusals of SetClass with their tests: no item has the name; the item is a bucket; the device has another class
abbrev pub set_class_tests : List Row → List ℕ → List ℕ → List (Refusal × Bool)
set_class_tests t n c = (NoSuchItem, not (is_named t n)) ∷ ((NotADevice, is_a_bucket (id_named t n)) ∷ ((ClassBound, meets (is_bound t c) (id_named t n)) ∷ []))

-- REMOVE CLASS: removes the class of the item with the name n
abbrev pub after_remove_class : List Row → List ℕ → After
after_remove_class t n = on_some t (id_named t n) (λ i. kept (set_class i None t))

-- the refusals of RemoveClass with their tests: no item has the name; the item is a bucket
abbrev pub remove_class_tests : List Row → List ℕ → List (Refusal × Bool)
remove_class_tests t n = (NoSuchItem, not (is_named t n)) ∷ ((NotADevice, is_a_bucket (id_named t n)) ∷ [])
