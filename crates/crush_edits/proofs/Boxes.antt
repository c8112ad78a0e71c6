-- The rows of new buckets that are nested as items.
use Rattle.std.proofs.Common.{◌≡◌, ℕ, ◌≤◌, Bool, true, false, List, [], ◌∷◌, ◌++◌, ap, sym, ◌∙◌, refl, arith, append_assoc, append-nil}
use Rattle.std.specs.Prelude.{◌==◌, if◌then◌else◌, Option, Some}
use Rattle.crush_model.specs.Items.{Items, none, device, bucket}
use Rattle.crush_model.specs.Reordered.{IsReordered, nothing, keep, through}
use Rattle.crush_model.specs.ItemRows.{rows, bucket_row}
use Rattle.crush_model.specs.Stored.{weight_sum, StoresSums}
use Rattle.crush_model.specs.Table.{Row}
use Rattle.crush_model.proofs.Reorder.{reordered_comm}
use Rattle.crush_model.proofs.Sums.{device_sum, below}
use Rattle.crush_edits.specs.Put.{NewData, new_header, next_up, chain}
use Rattle.crush_edits.specs.Boxes.{boxes, last_first}

-- one more bucket at the end holds all the buckets before it
pub boxes-more : (m : ℕ) (items : Items) (ns : List NewData) (n : NewData) → boxes m items (ns ++ n ∷ []) ≡ bucket (new_header n) (weight_sum (boxes m items ns)) m (boxes m items ns) none
boxes-more m items [] n = refl
boxes-more m items (x ∷ ns) n = boxes-more m (bucket (new_header x) (weight_sum items) m items none) ns n

-- THE ROWS of items in new buckets: those of the buckets from the uppermost down, and those of the items in the lowest
pub rows-boxes : (m : ℕ) (items : Items) (ns : List NewData) (top : Option ℕ) → rows top (boxes m items ns) ≡ last_first (chain ns top) ++ rows (next_up ns top) items
rows-boxes m items [] top = refl
rows-boxes m items (n ∷ ns) top =
    let row = bucket_row (next_up ns top) (new_header n) in
    rows-boxes m (bucket (new_header n) (weight_sum items) m items none) ns top
    ∙ ap (λ z. last_first (chain ns top) ++ row ∷ z) (append-nil (rows (Some n.id) items)) ∙ sym (append_assoc (last_first (chain ns top)) (row ∷ []) (rows (Some n.id) items))

-- the same if there are no items in the lowest
pub rows-empty : (m : ℕ) (ns : List NewData) (top : Option ℕ) → rows top (boxes m none ns) ≡ last_first (chain ns top)
rows-empty m ns top = rows-boxes m none ns top ∙ append-nil (last_first (chain ns top))

-- the nested buckets weigh what the items in them weigh, and store right sums if the items do
pub weight_sum-boxes : (m : ℕ) (items : Items) (ns : List NewData) → weight_sum (boxes m items ns) ≡ weight_sum items
weight_sum-boxes m items [] = refl
weight_sum-boxes m items (n ∷ ns) = omega (arith, weight_sum-boxes m (bucket (new_header n) (weight_sum items) m items none) ns)

pub StoresSums-boxes : (m : ℕ) (items : Items) (ns : List NewData) → StoresSums items → StoresSums (boxes m items ns)
StoresSums-boxes m items [] s = s
StoresSums-boxes m items (n ∷ ns) s = StoresSums-boxes m (bucket (new_header n) (weight_sum items) m items none) ns (refl, s, tt)

pub device_sum-boxes : (m : ℕ) (items : Items) (ns : List NewData) → device_sum (boxes m items ns) ≡ device_sum items
device_sum-boxes m items [] = refl
device_sum-boxes m items (n ∷ ns) = omega (arith, device_sum-boxes m (bucket (new_header n) (weight_sum items) m items none) ns)

-- the devices below one bucket weigh at most what all devices weigh
pub below-le : (b : ℕ) (n : Items) → below b n ≤ device_sum n
below-le b none = omega arith
below-le b (device d r) = omega (arith, below-le b r)
below-le b (bucket h w m k r) = omega (arith, either (h.id == b) (below-le b k), below-le b r) where
  either : (c : Bool) → below b k ≤ device_sum k → (if c then device_sum k else below b k) ≤ device_sum k
  either true le = omega arith
  either false le = le

-- the same rows in another order
pub turned-reordered : (rs : List Row) → IsReordered (last_first rs) rs
turned-reordered [] = nothing
turned-reordered (r ∷ rs) = through (reordered_comm (last_first rs) (r ∷ [])) (keep (turned-reordered rs))
