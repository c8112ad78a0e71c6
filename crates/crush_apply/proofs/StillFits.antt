-- A setting that fits the hierarchy fits it after an edit.
use Rattle.std.proofs.Common.{◌≡◌, ℕ, Bool, List, sym, subst, ◌∙◌, refl}
use Rattle.std.specs.Prelude.{Option, Some, None, Result, Ok, Err, IfOk, OnErr}
use Rattle.std.proofs.lemmas.List.Elements.{All-weaker}
use Rattle.crush_units.specs.declared.id.ItemId.TheVariants.{Bucket}
use Rattle.crush_model.specs.Table.{Row}
use Rattle.crush_model.specs.Same.{Same}
use Rattle.crush_model.specs.Lawful.{Lawful}
use Rattle.crush_model.specs.Forest.{ForestData, rows_of, IsSound}
use Rattle.crush_model.specs.Stands.{Stands}
use Rattle.crush_model.proofs.Found.{is_there-same}
use Rattle.crush_model.proofs.Reorder.{reordered-All}
use Rattle.crush_model.proofs.Same.{Same-sym}
use Rattle.crush_model.proofs.Stands.{stands_for_rows}
use Rattle.crush_edits.specs.declared.refusal.EditFault.{EditFault}
use Rattle.crush_edits.specs.declared.refusal.Refusal.{Refusal}
use Rattle.crush_edits.specs.declared.refusal.Done.{Done}
use Rattle.crush_edits.specs.declared.edit.Edit.{Edit}
use Rattle.crush_edits.specs.Setting.{SettingData, taken_buckets}
use Rattle.crush_edits.specs.Fits.{Fits, HasKind, IsThere}
use Rattle.crush_edits.specs.LawEdit.{IsEdit, Keeps}
use Rattle.crush_edits.specs.Answer.{done, answer}
use Rattle.crush_edits.specs.Edit.{after, edit, refusal}
use Rattle.crush_edits.specs.Outcome.{IsDone}
use Rattle.crush_edits.proofs.Edits.{edit_keeps}

-- a setting that fits a table fits each that is the same
pub Fits-same : (s : SettingData) (t u : List Row) → Lawful t → Same t u → Fits s t → Fits s u
Fits-same s t u l same f = record {
  setting = f.setting;
  types = reordered-All (HasKind s) same.rows f.types;
  taken = All-weaker (IsThere t) (IsThere u) (λ b there. sym (is_there-same t u same.rows l.ids (Bucket b)) ∙ there) (taken_buckets s) f.taken;
}

-- the table after an edit that is done is lawful, and the setting fits it
pub done_keeps : (s : SettingData) (t u : List Row) (e : Edit) (c : Bool) (m : ℕ) → Keeps s t → IsEdit e → edit s t e ≡ done c m u → Keeps s u
done_keeps s t u e c m k form is = by_refusal (refusal s t e) refl is where
  by_refusal : (o : Option Refusal) → refusal s t e ≡ o → answer o t (after s t e) ≡ done c m u → Keeps s u
  by_refusal (Some r) told is = absurd cc
  by_refusal None told is = let same : (after s t e).table ≡ u = cc in subst (Keeps s) same (edit_keeps s t e k form told)

-- the setting fits the hierarchy after an edit that was done
pub fits_after : (s : SettingData) (f g : ForestData) (e : Edit) (d : Done) → IsSound f → IsEdit e → Fits s (rows_of f) → ((t : List Row) → Stands f t → IsDone (Stands g) (edit s t e) d) → Fits s (rows_of g)
fits_after s f g e d sound form fits made =
    let one = made (rows_of f) (stands_for_rows f sound) in
    let keeps : Keeps s one.0 = done_keeps s (rows_of f) one.0 e d.changed d.made (record { lawful = sound.lawful; fits = fits }) form one.1 in
    Fits-same s one.0 (rows_of g) keeps.lawful (Same-sym (rows_of g) one.0 one.2.same) keeps.fits

-- the setting fits the hierarchy after a call, whatever its result is
pub fits_answered : (s : SettingData) (f g : ForestData) (e : Edit) (x : Result Done EditFault) → IsSound f → IsEdit e → Fits s (rows_of f) → IfOk x (λ d. (t : List Row) → Stands f t → IsDone (Stands g) (edit s t e) d) → OnErr x (g ≡ f) → Fits s (rows_of g)
fits_answered s f g e (Ok d) sound form fits made same = fits_after s f g e d sound form fits made
fits_answered s f g e (Err r) sound form fits made same = subst (λ (x : ForestData). Fits s (rows_of x)) (sym same) fits
