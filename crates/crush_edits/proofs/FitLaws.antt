-- A setting that fits a table still fits if the rows are in another order, if rows are added, or if columns other than type and id change.
use Rattle.std.proofs.Common.{ℕ, List, [], ◌∷◌, ◌++◌, ap, sym, ◌∙◌}
use Rattle.std.specs.Prelude.{All, is_some, if◌then◌else◌}
use Rattle.std.proofs.lemmas.List.Elements.{All-weaker, All-push}
use Rattle.crush_units.specs.declared.id.ItemId.TheVariants.{Bucket}
use Rattle.crush_model.specs.Table.{Row, row_of}
use Rattle.crush_model.specs.Same.{Same}
use Rattle.crush_model.specs.Lawful.{Lawful}
use Rattle.crush_model.proofs.Reorder.{reordered-All}
use Rattle.crush_model.proofs.Found.{is_there-same}
use Rattle.crush_model.proofs.Appended.{row_of-append}
use Rattle.crush_edits.specs.Setting.{SettingData, taken_buckets}
use Rattle.crush_edits.specs.Fits.{HasKind, IsThere, Fits}

-- a setting fits other rows whose types it has, if they have all buckets that the rows before have
pub Fits-rows : (s : SettingData) (t u : List Row) → Fits s t → All (HasKind s) u → ((b : ℕ) → IsThere t b → IsThere u b) → Fits s u
Fits-rows s t u f h kept = record { setting = f.setting; types = h; taken = All-weaker (IsThere t) (IsThere u) kept (taken_buckets s) f.taken }

-- the same rows in another order
pub Fits-same : (s : SettingData) (t u : List Row) → Lawful t → Same t u → Fits s t → Fits s u
Fits-same s t u l e f = Fits-rows s t u f (reordered-All (HasKind s) e.rows f.types) (λ b h. sym (is_there-same t u e.rows l.ids (Bucket b)) ∙ h)

-- one row more
there-push : (t : List Row) (r : Row) (b : ℕ) → IsThere t b → IsThere (t ++ r ∷ []) b
there-push t r b h = ap is_some (row_of-append t (r ∷ []) (Bucket b) ∙ (λ i. if h i then row_of t (Bucket b) else row_of (r ∷ []) (Bucket b))) ∙ h

pub Fits-push : (s : SettingData) (t : List Row) (r : Row) → Fits s t → HasKind s r → Fits s (t ++ r ∷ [])
Fits-push s t r f h = Fits-rows s t (t ++ r ∷ []) f (All-push (HasKind s) t r f.types h) (there-push t r)
