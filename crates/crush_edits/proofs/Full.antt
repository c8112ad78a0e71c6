-- If the table has no room, inserting a device that it doesn't have is refused.
use Rattle.std.proofs.Common.{◌≡◌, ℕ, ◌+◌, ◌<◌, ◌≤◌, true, false, List, [], ◌∷◌, ◌++◌, length, ap, ◌∙◌, refl, arith}
use Rattle.std.proofs.lemmas.Bool.Decides.{nat_tests}
use Rattle.std.specs.Prelude.{Option, Some, None, ◌||◌, if◌then◌else◌, is_some, nat_lt}
use Rattle.std.specs.Option.{option_and_then}
use Rattle.crush_units.specs.declared.id.ItemId.{ItemId}
use Rattle.crush_units.specs.declared.id.ItemId.TheVariants.{Device}
use Rattle.crush_units.specs.declared.limits.TheConstants.{MOST_BUCKETS, MOST_DEVICES}
use Rattle.crush_model.specs.Lawful.{has_too_many}
use Rattle.crush_model.specs.Table.{Row, row_of, is_there, is_placed, device_count, bucket_count}
use Rattle.crush_edits.specs.declared.edit.Edit.TheVariants.{Place}
use Rattle.crush_edits.specs.declared.edit.Placing.TheVariants.{Insert}
use Rattle.crush_edits.specs.declared.location.Pair.{Pair}
use Rattle.crush_edits.specs.declared.refusal.Refusal.TheVariants.{AlreadyPlaced, NoRoom}
use Rattle.crush_edits.specs.Answer.{first_refusal, room_test, sum_test}
use Rattle.crush_edits.specs.Edit.{refusal}
use Rattle.crush_edits.specs.LawPut.{FullOfDevices, FullOfBuckets}
use Rattle.crush_edits.specs.Located.{located_device_tests, end_tests}
use Rattle.crush_edits.specs.Placing.{edited_leaf, edited_device, after_insert}
use Rattle.crush_edits.specs.Put.{put}
use Rattle.crush_edits.specs.Setting.{SettingData}
use Rattle.crush_edits.specs.Stops.{stops, fresh_stops}
use Rattle.crush_edits.proofs.Order.{group_passes}
use Rattle.crush_edits.proofs.PutLaws.{counts_new}

-- an item that the table doesn't have is in no bucket
gone_free : (t : List Row) (i : ItemId) → is_there t i ≡ false → is_placed t i ≡ false
gone_free t i gone = by_row (row_of t i) gone where
  by_row : (o : Option Row) → is_some o ≡ false → is_some (option_and_then (λ (r : Row). r.parent) o) ≡ false
  by_row None e = refl
  by_row (Some r) e = absurd cc

-- one device more than allowed
over_devices : (u d b : ℕ) → u ≡ d + 1 → MOST_DEVICES ≤ d → (nat_lt MOST_DEVICES u || nat_lt MOST_BUCKETS b) ≡ true
over_devices u d b more full = grind (arith, nat_tests)

over_buckets : (u b c k : ℕ) → b ≡ c + k → MOST_BUCKETS < c + k → (nat_lt MOST_DEVICES u || nat_lt MOST_BUCKETS b) ≡ true
over_buckets u b c k more full = grind (arith, nat_tests)

module _ (s : SettingData) (t : List Row) (d : ℕ) (n : List ℕ) (w : ℕ) (l : List Pair) where
  -- if the tests before the one of room don't hold, the refusal is NoRoom
  room_is_told : first_refusal (located_device_tests s t d n w l) ≡ None → is_placed t (Device d) ≡ false → first_refusal (end_tests t (stops s l)) ≡ None → has_too_many (put t (edited_device t d n w) (stops s l)) ≡ true → refusal s t (Place Insert d n w l) ≡ Some NoRoom
  room_is_told e free f many =
      let a = after_insert s t d n w l in
      let ends = end_tests t (stops s l) in
      group_passes (located_device_tests s t d n w l) ((AlreadyPlaced, is_placed t (Device d)) ∷ (ends ++ (room_test a ∷ (sum_test a ∷ [])))) e
      ∙ ap (λ z. if z then Some AlreadyPlaced else first_refusal (ends ++ (room_test a ∷ (sum_test a ∷ [])))) free
      ∙ group_passes ends (room_test a ∷ (sum_test a ∷ [])) f
      ∙ ap (λ z. if z then Some NoRoom else first_refusal (sum_test a ∷ [])) many

pub full_of_devices : FullOfDevices
full_of_devices s t d n w l lawful route gone e f full =
    let counts = counts_new t (stops s l) lawful route (edited_leaf t d n w) gone in
    let u = put t (edited_device t d n w) (stops s l) in
    room_is_told s t d n w l e (gone_free t (Device d) gone) f (over_devices (device_count u) (device_count t) (bucket_count u) counts.0 full)

pub full_of_buckets : FullOfBuckets
full_of_buckets s t d n w l lawful route gone e f full =
    let counts = counts_new t (stops s l) lawful route (edited_leaf t d n w) gone in
    let u = put t (edited_device t d n w) (stops s l) in
    room_is_told s t d n w l e (gone_free t (Device d) gone) f (over_buckets (device_count u) (bucket_count u) (bucket_count t) (length (fresh_stops t (stops s l))) counts.1 full)
