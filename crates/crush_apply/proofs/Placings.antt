-- What the edit that places a device gives for the table, for each of the three values of `how`.
use Rattle.std.proofs.Common.{◌≡◌, ℕ, ◌≤◌, true, false, List, sym, ◌∙◌, refl}
use Rattle.std.specs.Prelude.{Some, None}
use Rattle.crush_units.specs.declared.id.ItemId.TheVariants.{Device}
use Rattle.crush_units.specs.declared.limits.TheConstants.{HEAVIEST_DEVICE}
use Rattle.crush_model.specs.Lawful.{Lawful}
use Rattle.crush_model.specs.Table.{Row}
use Rattle.crush_edits.specs.declared.edit.Edit.TheVariants.{Place}
use Rattle.crush_edits.specs.declared.edit.Placing.{Placing}
use Rattle.crush_edits.specs.declared.edit.Placing.TheVariants.{Insert, CreateOrMove, Update}
use Rattle.crush_edits.specs.declared.location.Pair.{Pair}
use Rattle.crush_edits.specs.declared.refusal.Refusal.{Refusal}
use Rattle.crush_edits.specs.declared.refusal.Refusal.TheVariants.{AlreadyPlaced}
use Rattle.crush_edits.specs.Answer.{first_refusal, refused, done}
use Rattle.crush_edits.specs.Edit.{edit}
use Rattle.crush_edits.specs.Located.{is_taken, located_device_tests, end_tests}
use Rattle.crush_edits.specs.Placing.{put_after, edited_device, after_insert, after_create_or_move, after_update}
use Rattle.crush_edits.specs.Put.{held}
use Rattle.crush_edits.specs.Setting.{SettingData}
use Rattle.crush_edits.specs.Stops.{stops}
use Rattle.crush_apply.specs.Answered.{last_answer}
use Rattle.crush_apply.specs.IfPlaced.{is_barred, coming_weight, stay_answer}
use Rattle.crush_apply.proofs.Asked.{insert_device, insert_placed, insert_end, insert_answer, put_device, put_end, put_last, move_answer, update_answer, held_answer}
use Rattle.crush_apply.proofs.Done.{unplaced_free}
use Rattle.crush_apply.proofs.Updates.{held_update}
use Rattle.crush_apply.proofs.Weights.{refused_edit}

-- an edit that doesn't set the weight changes nothing if the device is held
pub left_alone : (s : SettingData) (t : List Row) (how : Placing) (n : List ℕ) (w : ℕ) → (how ≡ Update → ⊥) → stay_answer s t how n w ≡ done false 0 t
left_alone s t Insert n w other = refl
left_alone s t CreateOrMove n w other = refl
left_alone s t Update n w other = absurd (other refl)

module _ (s : SettingData) (t : List Row) (d : ℕ) (n : List ℕ) (w : ℕ) (l : List Pair) where
  -- the edit is refused because of the device or because of the location
  pub device_refused : (how : Placing) (r : Refusal) → first_refusal (located_device_tests s t d n w l) ≡ Some r → edit s t (Place how d n w l) ≡ refused r
  device_refused Insert r e = refused_edit s t (Place Insert d n w l) r (insert_device s t d n w l r (after_insert s t d n w l) e)
  device_refused CreateOrMove r e = refused_edit s t (Place CreateOrMove d n w l) r (put_device s t d n w l r (after_create_or_move s t d n w l) e)
  device_refused Update r e = refused_edit s t (Place Update d n w l) r (put_device s t d n w l r (after_update s t d n w l) e)

  -- the edit is refused because the device is already in a bucket
  pub barred : (how : Placing) → first_refusal (located_device_tests s t d n w l) ≡ None → is_barred how t d ≡ true → edit s t (Place how d n w l) ≡ refused AlreadyPlaced
  barred Insert e there = refused_edit s t (Place Insert d n w l) AlreadyPlaced (insert_placed s t d n w l (after_insert s t d n w l) e there)
  barred CreateOrMove e there = absurd cc
  barred Update e there = absurd cc

  -- the edit is refused because of the item that ends the route
  pub end_refused : (how : Placing) (r : Refusal) → first_refusal (located_device_tests s t d n w l) ≡ None → is_barred how t d ≡ false → first_refusal (end_tests t (stops s l)) ≡ Some r → edit s t (Place how d n w l) ≡ refused r
  end_refused Insert r e free f = refused_edit s t (Place Insert d n w l) r (insert_end s t d n w l r (after_insert s t d n w l) e free f)
  end_refused CreateOrMove r e free f = refused_edit s t (Place CreateOrMove d n w l) r (put_end s t d n w l r (after_create_or_move s t d n w l) e f)
  end_refused Update r e free f = refused_edit s t (Place Update d n w l) r (put_end s t d n w l r (after_update s t d n w l) e f)

  module _ (e : first_refusal (located_device_tests s t d n w l) ≡ None) (f : first_refusal (end_tests t (stops s l)) ≡ None) where
    -- the device is held
    pub stays : (how : Placing) → is_barred how t d ≡ false → is_taken t (Device d) n ≡ false → w ≤ HEAVIEST_DEVICE → held t (Device d) (stops s l) ≡ true → Lawful t → edit s t (Place how d n w l) ≡ stay_answer s t how n w
    stays Insert free own light there lawful = absurd (let no : true ≡ false = sym there ∙ unplaced_free t (Device d) (stops s l) free in cc)
    stays CreateOrMove free own light there lawful = held_answer s t d n w l e f there lawful
    stays Update free own light there lawful = held_update s t d n w l lawful (λ a. put_last s t d n w l a e f) own light there

    -- the device is put
    pub comes : (how : Placing) → is_barred how t d ≡ false → held t (Device d) (stops s l) ≡ false → edit s t (Place how d n w l) ≡ last_answer t (put_after t (edited_device t d n (coming_weight how t d w)) (stops s l))
    comes Insert free out = insert_answer s t d n w l e free f
    comes CreateOrMove free out = move_answer s t d n w l e f out
    comes Update free out = update_answer s t d n w l e f out
