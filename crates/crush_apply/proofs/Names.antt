-- What a rename and a swap give for the table.
use Rattle.std.proofs.Common.{◌≡◌, ℕ, List, true, false, not, refl, ap, ◌∙◌}
use Rattle.std.specs.Prelude.{None, ◌==◌, ◌||◌}
use Rattle.crush_units.specs.declared.id.ItemId.TheVariants.{Bucket}
use Rattle.crush_units.specs.Id.{same_id}
use Rattle.crush_units.specs.Name.{IsName}
use Rattle.crush_model.specs.Table.{Row, is_below, are_nested}
use Rattle.crush_model.specs.Columns.{set_name, swap_buckets}
use Rattle.crush_model.specs.Lawful.{Lawful}
use Rattle.crush_model.proofs.Renamed.{Lawful-set_name}
use Rattle.crush_model.proofs.Swapped.{Lawful-swap}
use Rattle.crush_model.proofs.Weighs.{or_left, or_right}
use Rattle.crush_edits.specs.Setting.{SettingData}
use Rattle.crush_edits.specs.declared.edit.Edit.TheVariants.{Swap, Rename}
use Rattle.crush_edits.specs.Answer.{done, answer}
use Rattle.crush_edits.specs.Edit.{after, edit, refusal}
use Rattle.crush_edits.proofs.Changes.{other_name, other_swap}
use Rattle.crush_edits.proofs.Edits.{some_row}
use Rattle.crush_apply.specs.Alone.{CanRename, CanSwap}
use Rattle.crush_apply.proofs.Found.{there_by_name}

-- A RENAME
can_rename : (s : SettingData) (t : List Row) (from to : List ℕ) (b : ℕ) → CanRename t from to b → refusal s t (Rename from to) ≡ None
can_rename s t from to b c = rw (c.named, c.free) refl

pub rename_done : (s : SettingData) (t : List Row) (from to : List ℕ) (b : ℕ) → Lawful t → CanRename t from to b → edit s t (Rename from to) ≡ done true 0 (set_name (Bucket b) to t)
rename_done s t from to b l c =
    let other = other_name t (Bucket b) to l (there_by_name t from (Bucket b) c.named) c.free in
    ap (λ r. answer r t (after s t (Rename from to))) (can_rename s t from to b c) ∙ rw c.named (ap (λ same. done (not same) 0 (set_name (Bucket b) to t)) other)

pub rename_lawful : (t : List Row) (from to : List ℕ) (b : ℕ) → Lawful t → IsName to → CanRename t from to b → Lawful (set_name (Bucket b) to t)
rename_lawful t from to b l form c =
    let row = some_row t (Bucket b) (there_by_name t from (Bucket b) c.named) in
    Lawful-set_name (Bucket b) to t row.0 l row.1 form c.free

-- A SWAP
-- neither bucket is the other or holds it
pub not_nested : (t : List Row) (a b : ℕ) → (same_id (Bucket a) (Bucket b) || is_below t a (Bucket b)) ≡ false → (same_id (Bucket b) (Bucket a) || is_below t b (Bucket a)) ≡ false → are_nested t a b ≡ false
not_nested t a b down up =
    (λ i. or_left (same_id (Bucket a) (Bucket b)) (is_below t a (Bucket b)) down i || (or_right (same_id (Bucket a) (Bucket b)) (is_below t a (Bucket b)) down i || or_right (same_id (Bucket b) (Bucket a)) (is_below t b (Bucket a)) up i))

can_swap : (s : SettingData) (t : List Row) (m n : List ℕ) (a b : ℕ) → CanSwap t m n a b → refusal s t (Swap m n) ≡ None
can_swap s t m n a b c = rw (c.first, c.second, c.apart, c.fits) refl

pub swap_done : (s : SettingData) (t : List Row) (m n : List ℕ) (a b : ℕ) → Lawful t → CanSwap t m n a b → edit s t (Swap m n) ≡ done true 0 (swap_buckets a b t)
swap_done s t m n a b l c =
    let apart = or_left (a == b) (is_below t a (Bucket b) || is_below t b (Bucket a)) c.apart in
    let other = other_swap t a b l (there_by_name t m (Bucket a) c.first) (there_by_name t n (Bucket b) c.second) apart in
    ap (λ r. answer r t (after s t (Swap m n))) (can_swap s t m n a b c) ∙ rw (c.first, c.second) (ap (λ same. done (not same) 0 (swap_buckets a b t)) other)

pub swap_lawful : (t : List Row) (m n : List ℕ) (a b : ℕ) → Lawful t → CanSwap t m n a b → Lawful (swap_buckets a b t)
swap_lawful t m n a b l c =
    let one = some_row t (Bucket a) (there_by_name t m (Bucket a) c.first) in
    let other = some_row t (Bucket b) (there_by_name t n (Bucket b) c.second) in
    Lawful-swap t a b one.0 other.0 l one.1 other.1 c.apart c.fits
