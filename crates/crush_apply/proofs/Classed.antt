-- What SetClass and RemoveClass give for the table.
use Rattle.std.proofs.Common.{◌≡◌, ℕ, List, true, false, not, refl, ap, ◌∙◌}
use Rattle.std.specs.Prelude.{Option, Some, None, is_some, bytes_eq}
use Rattle.std.specs.Option.{option_eq}
use Rattle.crush_units.specs.declared.id.ItemId.TheVariants.{Device}
use Rattle.crush_model.specs.Columns.{set_class}
use Rattle.crush_model.specs.Lawful.{Lawful}
use Rattle.crush_model.specs.Table.{Row, id_named}
use Rattle.crush_model.proofs.Classes.{class_kept}
use Rattle.crush_model.proofs.Tested.{bytes_itself}
use Rattle.crush_edits.specs.Setting.{SettingData}
use Rattle.crush_edits.specs.declared.edit.Edit.TheVariants.{SetClass, RemoveClass}
use Rattle.crush_edits.specs.Answer.{done, answer}
use Rattle.crush_edits.specs.Changed.{same_table}
use Rattle.crush_edits.specs.Edit.{after, edit, refusal}
use Rattle.crush_edits.proofs.Changes.{class_changes, table_refl}
use Rattle.crush_apply.specs.Alone.{HasClass}
use Rattle.crush_apply.proofs.Found.{there_by_name}

module _ (s : SettingData) (t : List Row) (n : List ℕ) (d : ℕ) (l : Lawful t) where
  -- setting the class that the device has changes nothing
  stays : (c : Option (List ℕ)) → HasClass t n c d → done (not (same_table t (set_class (Device d) c t))) 0 (set_class (Device d) c t) ≡ done false 0 t
  stays c has =
      let kept : set_class (Device d) c t ≡ t = class_kept (Device d) c t l (there_by_name t n (Device d) has.named) has.class in
      (λ k. done (not (same_table t (kept k))) 0 (kept k)) ∙ ap (λ b. done (not b) 0 t) (table_refl t)

  -- setting another class changes the table
  becomes : (c k : Option (List ℕ)) → HasClass t n k d → option_eq bytes_eq k c ≡ false → done (not (same_table t (set_class (Device d) c t))) 0 (set_class (Device d) c t) ≡ done true 0 (set_class (Device d) c t)
  becomes c k has other =
      ap (λ b. done (not b) 0 (set_class (Device d) c t)) (class_changes t (Device d) c l (there_by_name t n (Device d) has.named) ∙ ap (λ o. option_eq bytes_eq o c) has.class ∙ other)

  -- SET CLASS
  gets : (c : List ℕ) → HasClass t n None d → refusal s t (SetClass n c) ≡ None
  gets c has = rw (has.named, has.class) refl

  has_it : (c : List ℕ) → HasClass t n (Some c) d → refusal s t (SetClass n c) ≡ None
  has_it c has = rw (has.named, has.class, bytes_itself c) refl

  pub set_class_done : (c : List ℕ) → HasClass t n None d → edit s t (SetClass n c) ≡ done true 0 (set_class (Device d) (Some c) t)
  set_class_done c has = ap (λ r. answer r t (after s t (SetClass n c))) (gets c has) ∙ rw has.named (becomes (Some c) None has refl)

  pub set_class_still : (c : List ℕ) → HasClass t n (Some c) d → edit s t (SetClass n c) ≡ done false 0 t
  set_class_still c has = ap (λ r. answer r t (after s t (SetClass n c))) (has_it c has) ∙ rw has.named (stays (Some c) has)

  -- REMOVE CLASS
  loses : id_named t n ≡ Some (Device d) → refusal s t (RemoveClass n) ≡ None
  loses named = rw named refl

  had_one : (k : Option (List ℕ)) → not (option_eq bytes_eq k None) ≡ is_some k
  had_one None = refl
  had_one (Some k) = refl

  pub remove_class_done : (k : Option (List ℕ)) → HasClass t n k d → edit s t (RemoveClass n) ≡ done (is_some k) 0 (set_class (Device d) None t)
  remove_class_done k has =
      let same = class_changes t (Device d) None l (there_by_name t n (Device d) has.named) ∙ ap (λ o. option_eq bytes_eq o None) has.class in
      ap (λ r. answer r t (after s t (RemoveClass n))) (loses has.named) ∙ rw has.named (ap (λ b. done b 0 (set_class (Device d) None t)) (ap not same ∙ had_one k))
