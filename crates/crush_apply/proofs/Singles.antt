-- What removing one row and adding an empty bucket give for the table.
use Rattle.std.proofs.Common.{◌≡◌, ℕ, ◌<◌, ◌≤◌, List, [], ◌∷◌, ◌++◌, true, false, not, refl, sym, ap, subst, ◌∙◌, arith, ⊎_elim}
use Rattle.std.specs.Prelude.{None, ◌||◌, ◌==◌, nat_lt}
use Rattle.std.proofs.lemmas.Bool.Decides.{eqb_tells}
use Rattle.std.proofs.lemmas.Bool.Decides.{nat_tests}
use Rattle.crush_units.specs.declared.id.ItemId.{ItemId}
use Rattle.crush_units.specs.declared.id.ItemId.TheVariants.{Device, Bucket}
use Rattle.crush_units.specs.Name.{IsName}
use Rattle.crush_units.specs.declared.limits.TheConstants.{MOST_BUCKETS, MOST_DEVICES}
use Rattle.crush_model.specs.ItemRows.{bucket_row}
use Rattle.crush_model.specs.Table.{Row, free_ids, device_count, bucket_count}
use Rattle.crush_model.specs.Columns.{table_without, without_row}
use Rattle.crush_model.specs.Lawful.{Lawful, has_too_many}
use Rattle.crush_model.proofs.Emptied.{table_without-empty, table_without-device}
use Rattle.crush_edits.specs.Setting.{SettingData}
use Rattle.crush_edits.specs.Fits.{Fits}
use Rattle.crush_edits.specs.declared.edit.Edit.TheVariants.{Remove, AddBucket}
use Rattle.crush_edits.specs.Answer.{done, answer, meets}
use Rattle.crush_edits.specs.Edit.{after, edit, refusal}
use Rattle.crush_edits.specs.Making.{holds_items, after_add_bucket}
use Rattle.crush_edits.specs.Put.{new_header}
use Rattle.crush_edits.specs.Stops.{number_of}
use Rattle.crush_edits.proofs.Changes.{other_without}
use Rattle.crush_edits.proofs.Others.{holds_none, added_is_row, added_changes, added_counts, added_lawful}
use Rattle.crush_apply.specs.Alone.{CanRemove, CanAddBucket}
use Rattle.crush_apply.proofs.Found.{there_by_name}

-- A ROW THAT IS REMOVED
-- removing a device, or a bucket that holds no items, with everything below it removes just one row
without_is : (t : List Row) (i : ItemId) → meets (holds_items t) (number_of i) ≡ false → table_without i t ≡ without_row i t
without_is t (Device d) h = table_without-device t d
without_is t (Bucket b) h = table_without-empty t b (holds_none t b h)

can_remove : (s : SettingData) (t : List Row) (n : List ℕ) (i : ItemId) → CanRemove s t n i → refusal s t (Remove n) ≡ None
can_remove s t n i c = rw (c.named, c.empty, c.unused) refl

pub remove_done : (s : SettingData) (t : List Row) (n : List ℕ) (i : ItemId) → CanRemove s t n i → edit s t (Remove n) ≡ done true 0 (table_without i t)
remove_done s t n i c =
    let other = other_without t i (there_by_name t n i c.named) in
    ap (λ r. answer r t (after s t (Remove n))) (can_remove s t n i c) ∙ rw c.named (ap (λ same. done (not same) 0 (without_row i t)) other) ∙ ap (done true 0) (sym (without_is t i c.empty))

-- A BUCKET THAT IS ADDED
-- there is room for the bucket
few : (d b : ℕ) → d ≤ MOST_DEVICES → b ≤ MOST_BUCKETS → (nat_lt MOST_DEVICES d || nat_lt MOST_BUCKETS b) ≡ false
few d b h k = grind (arith, nat_tests)

added_room : (s : SettingData) (t : List Row) (n kind : List ℕ) → Lawful t → bucket_count t < MOST_BUCKETS → has_too_many (after_add_bucket s t n kind).table ≡ false
added_room s t n kind l room =
    let counts = added_counts s t n kind in
    few (device_count (after_add_bucket s t n kind).table) (bucket_count (after_add_bucket s t n kind).table) (omega (arith, counts.0, l.devices)) (omega (arith, counts.1, room))

can_add_bucket : (s : SettingData) (t : List Row) (n kind : List ℕ) (k : ℕ) → Lawful t → CanAddBucket s t n kind k → refusal s t (AddBucket n kind) ≡ None
can_add_bucket s t n kind k l c = let room = added_room s t n kind l c.room in rw (room, c.known, c.free, c.some) refl

pub add_bucket_done : (s : SettingData) (t : List Row) (n kind : List ℕ) (k b : ℕ) → Lawful t → CanAddBucket s t n kind k → free_ids t 1 ≡ b ∷ [] →
    edit s t (AddBucket n kind) ≡ done true 1 (t ++ bucket_row None (new_header (record { id = b; kind = k; name = n })) ∷ [])
add_bucket_done s t n kind k b l c free =
    ap (λ r. answer r t (after s t (AddBucket n kind))) (can_add_bucket s t n kind k l c) ∙ ap (λ same. done (not same) 1 (after_add_bucket s t n kind).table) (added_changes s t n kind) ∙ ap (done true 1) (added_is_row s t n kind k b c.known free)

pub add_bucket_lawful : (s : SettingData) (t : List Row) (n kind : List ℕ) (k b : ℕ) → Lawful t → Fits s t → IsName n → CanAddBucket s t n kind k → free_ids t 1 ≡ b ∷ [] →
    Lawful (t ++ bucket_row None (new_header (record { id = b; kind = k; name = n })) ∷ [])
add_bucket_lawful s t n kind k b l fits form c free = subst Lawful (added_is_row s t n kind k b c.known free) (added_lawful s t n kind k l fits c.known c.some form c.free (added_room s t n kind l c.room))

-- a type number that the code has found not to be 0
pub not_zero : (k n : ℕ) → n ≡ k → (n ≡ 0 → ⊥) → (k == 0) ≡ false
not_zero k n is other = ⊎_elim (λ p. absurd (other (is ∙ p.1))) (λ p. p.0) (eqb_tells k 0)
