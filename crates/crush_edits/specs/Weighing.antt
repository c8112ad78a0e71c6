-- The edits that change weights: Reweight and ReweightSubtree.
use Rattle.std.specs.Prelude.{ℕ, List, [], ◌∷◌, Bool, not, ◌&&◌, is_none}
use Rattle.crush_units.specs.declared.id.ItemId.{ItemId}
use Rattle.crush_units.specs.Id.{is_device_id}
use Rattle.crush_model.specs.Table.{Row, id_named, is_named, parent_of}
use Rattle.crush_model.specs.Columns.{set_weight, set_subtree}
use Rattle.crush_edits.specs.declared.refusal.Refusal.{Refusal}
use Rattle.crush_edits.specs.declared.refusal.Refusal.TheVariants.{WeightTooLarge, NoSuchItem, NotPlaced, NotADevice, NotABucket}
use Rattle.crush_edits.specs.Stops.{bucket_named}
use Rattle.crush_edits.specs.Answer.{After, kept, on_some, meets, is_a_device, is_a_bucket, is_heavy, sum_test}

-- REWEIGHT: sets the weight in the row of the item with the name n
abbrev pub after_reweight : List Row → List ℕ → ℕ → After
after_reweight t n w = on_some t (id_named t n) (λ i. kept (set_weight i w t))

-- whether the item is a device that is in no bucket
abbrev pub is_unplaced : List Row → ItemId → Bool
is_unplaced t i = is_device_id i && is_none (parent_of t i)

-- the refusals of Reweight with their tests: the weight is too large; no item has the name; the item is a device that is in no bucket; the item is a bucket; a sum is too large afterwards
abbrev pub reweight_tests : List Row → List ℕ → ℕ → After → List (Refusal × Bool)
reweight_tests t n w a =
    (WeightTooLarge, is_heavy w) ∷ ((NoSuchItem, not (is_named t n)) ∷ ((NotPlaced, meets (is_unplaced t) (id_named t n)) ∷ ((NotADevice, is_a_bucket (id_named t n)) ∷ (sum_test a ∷ []))))

-- REWEIGHT SUBTREE: sets the weight in the rows of all devices below the bucket with the name n
abbrev pub after_subtree : List Row → List ℕ → ℕ → After
after_subtree t n w = on_some t (bucket_named t n) (λ b. kept (set_subtree b w t))

-- the refusals of ReweightSubtree with their tests: the weight is too large; no item has the name; the item is a device; a sum is too large afterwards
abbrev pub subtree_tests : List Row → List ℕ → ℕ → After → List (Refusal × Bool)
subtree_tests t n w a = (WeightTooLarge, is_heavy w) ∷ ((NoSuchItem, not (is_named t n)) ∷ ((NotABucket, is_a_device (id_named t n)) ∷ (sum_test a ∷ [])))
