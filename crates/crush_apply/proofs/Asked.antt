-- The tests of an edit that puts a device. The code makes them in groups, one group after the other.
use Rattle.std.proofs.Common.{◌≡◌, ℕ, Bool, true, false, List, [], ◌∷◌, ◌++◌, ap, ◌∙◌}
use Rattle.std.specs.Prelude.{if◌then◌else◌, Some, None, bytes_eq}
use Rattle.std.specs.List.{count_by}
use Rattle.crush_units.specs.declared.id.ItemId.TheVariants.{Device}
use Rattle.crush_model.specs.Columns.{set_weight}
use Rattle.crush_model.specs.Lawful.{Lawful}
use Rattle.crush_model.specs.Table.{Row, is_placed}
use Rattle.crush_edits.specs.declared.edit.Edit.TheVariants.{Place}
use Rattle.crush_edits.specs.declared.edit.Placing.TheVariants.{Insert, CreateOrMove, Update}
use Rattle.crush_edits.specs.declared.location.Pair.{Pair}
use Rattle.crush_edits.specs.declared.refusal.Refusal.{Refusal}
use Rattle.crush_edits.specs.declared.refusal.Refusal.TheVariants.{AlreadyPlaced}
use Rattle.crush_edits.specs.Answer.{After, answer, done, kept, first_refusal, room_test, sum_test}
use Rattle.crush_edits.specs.Edit.{edit}
use Rattle.crush_edits.specs.Located.{location_tests, located_device_tests, end_tests}
use Rattle.crush_edits.specs.Placing.{put_after, edited_device, kept_weight, insert_tests, device_put_tests, after_insert, after_create_or_move, after_update}
use Rattle.crush_edits.specs.Put.{held}
use Rattle.crush_edits.specs.Setting.{SettingData}
use Rattle.crush_edits.specs.Stops.{StopData, stops}
use Rattle.crush_edits.proofs.Order.{group_passes, group_refuses}
use Rattle.crush_edits.proofs.Stops.{no_stop_named}
use Rattle.crush_apply.specs.Answered.{last_refusal, last_answer}
use Rattle.crush_apply.specs.Coming.{CanArrive}
use Rattle.crush_apply.specs.Destination.{DestinationData, Leads}
use Rattle.crush_apply.proofs.Answered.{last_kept}
use Rattle.crush_apply.proofs.Passed.{device_passes, location_nothing}
use Rattle.crush_edits.proofs.Edits.{not_heavy}

-- if the first test doesn't hold, the other tests decide
next_test : (r : Refusal) (b : Bool) (qs : List (Refusal × Bool)) → b ≡ false → first_refusal ((r, b) ∷ qs) ≡ first_refusal qs
next_test r b qs e = ap (λ z. if z then Some r else first_refusal qs) e

abbrev last_tests : After → List (Refusal × Bool)
last_tests a = room_test a ∷ (sum_test a ∷ [])

module _ (s : SettingData) (t : List Row) (d : ℕ) (n : List ℕ) (w : ℕ) (l : List Pair) where
  abbrev device : List (Refusal × Bool)
  device = located_device_tests s t d n w l

  abbrev ends : List (Refusal × Bool)
  ends = end_tests t (stops s l)

  -- INSERT
  abbrev placed : After → List (Refusal × Bool)
  placed a = (AlreadyPlaced, is_placed t (Device d)) ∷ (ends ++ last_tests a)

  pub insert_device : (r : Refusal) (a : After) → first_refusal (located_device_tests s t d n w l) ≡ Some r → first_refusal (insert_tests s t d n w l a) ≡ Some r
  insert_device r a e = group_refuses device (placed a) r e

  pub insert_placed : (a : After) → first_refusal (located_device_tests s t d n w l) ≡ None → is_placed t (Device d) ≡ true → first_refusal (insert_tests s t d n w l a) ≡ Some AlreadyPlaced
  insert_placed a e there = group_passes device (placed a) e ∙ ap (λ z. if z then Some AlreadyPlaced else first_refusal (ends ++ last_tests a)) there

  pub insert_end : (r : Refusal) (a : After) → first_refusal (located_device_tests s t d n w l) ≡ None → is_placed t (Device d) ≡ false → first_refusal (end_tests t (stops s l)) ≡ Some r → first_refusal (insert_tests s t d n w l a) ≡ Some r
  insert_end r a e free f = group_passes device (placed a) e ∙ next_test AlreadyPlaced (is_placed t (Device d)) (ends ++ last_tests a) free ∙ group_refuses ends (last_tests a) r f

  pub insert_last : (a : After) → first_refusal (located_device_tests s t d n w l) ≡ None → is_placed t (Device d) ≡ false → first_refusal (end_tests t (stops s l)) ≡ None → first_refusal (insert_tests s t d n w l a) ≡ last_refusal a
  insert_last a e free f = group_passes device (placed a) e ∙ next_test AlreadyPlaced (is_placed t (Device d)) (ends ++ last_tests a) free ∙ group_passes ends (last_tests a) f

  pub insert_answer : first_refusal (located_device_tests s t d n w l) ≡ None → is_placed t (Device d) ≡ false → first_refusal (end_tests t (stops s l)) ≡ None → edit s t (Place Insert d n w l) ≡ last_answer t (put_after t (edited_device t d n w) (stops s l))
  insert_answer e free f = let a = after_insert s t d n w l in ap (λ o. answer o t a) (insert_last a e free f)

  -- CREATE OR MOVE, UPDATE
  pub put_device : (r : Refusal) (a : After) → first_refusal (located_device_tests s t d n w l) ≡ Some r → first_refusal (device_put_tests s t d n w l a) ≡ Some r
  put_device r a e = group_refuses device (ends ++ last_tests a) r e

  pub put_end : (r : Refusal) (a : After) → first_refusal (located_device_tests s t d n w l) ≡ None → first_refusal (end_tests t (stops s l)) ≡ Some r → first_refusal (device_put_tests s t d n w l a) ≡ Some r
  put_end r a e f = group_passes device (ends ++ last_tests a) e ∙ group_refuses ends (last_tests a) r f

  pub put_last : (a : After) → first_refusal (located_device_tests s t d n w l) ≡ None → first_refusal (end_tests t (stops s l)) ≡ None → first_refusal (device_put_tests s t d n w l a) ≡ last_refusal a
  put_last a e f = group_passes device (ends ++ last_tests a) e ∙ group_passes ends (last_tests a) f

  -- if the device isn't held, it is put
  module _ (e : first_refusal (located_device_tests s t d n w l) ≡ None) (f : first_refusal (end_tests t (stops s l)) ≡ None) (free : held t (Device d) (stops s l) ≡ false) where
    pub move_answer : edit s t (Place CreateOrMove d n w l) ≡ last_answer t (put_after t (edited_device t d n (kept_weight t d w)) (stops s l))
    move_answer = let a = after_create_or_move s t d n w l in ap (λ o. answer o t a) (put_last a e f) ∙ ap (λ b. last_answer t (if b then kept t else put_after t (edited_device t d n (kept_weight t d w)) (stops s l))) free

    pub update_answer : edit s t (Place Update d n w l) ≡ last_answer t (put_after t (edited_device t d n w) (stops s l))
    update_answer = let a = after_update s t d n w l in ap (λ o. answer o t a) (put_last a e f) ∙ ap (λ b. last_answer t (if b then kept (set_weight (Device d) w t) else put_after t (edited_device t d n w) (stops s l))) free

  -- if the device is held, nothing changes
  pub held_answer : first_refusal (located_device_tests s t d n w l) ≡ None → first_refusal (end_tests t (stops s l)) ≡ None → held t (Device d) (stops s l) ≡ true → Lawful t → edit s t (Place CreateOrMove d n w l) ≡ done false 0 t
  held_answer e f there lawful =
      let a = after_create_or_move s t d n w l in
      ap (λ o. answer o t a) (put_last a e f) ∙ ap (λ b. last_answer t (if b then kept t else put_after t (edited_device t d n (kept_weight t d w)) (stops s l))) there ∙ last_kept t lawful

  -- BOTH: the location has passed its tests, and the device can be put there
  pub located : first_refusal (located_device_tests s t d n w l) ≡ None → first_refusal (location_tests s l) ≡ None
  located e = location_nothing s l (device_passes s t d n w l e).location

  pub can_come : (to : DestinationData) → first_refusal (located_device_tests s t d n w l) ≡ None → to.stops ≡ stops s l → Leads t to → CanArrive t d n w to
  can_come to e are leads =
      let passes = device_passes s t d n w l e in
      record {
        leads = leads;
        own = passes.own;
        other = ap (count_by (λ (p : StopData). bytes_eq p.name n)) are ∙ no_stop_named s l n passes.other;
        weight = not_heavy w passes.light;
      }
