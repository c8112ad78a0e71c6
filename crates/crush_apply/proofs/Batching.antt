-- Applying a batch edit by edit.
use Rattle.std.proofs.Common.{◌≡◌, ℕ, Bool, List, ◌∷◌, ap, sym, subst, ◌∙◌}
use Rattle.std.specs.Prelude.{Result, Ok, Err, OnErr}
use Rattle.crush_model.specs.Table.{Row}
use Rattle.crush_model.specs.Forest.{ForestData}
use Rattle.crush_model.specs.Stands.{Stands}
use Rattle.crush_nodes.specs.Room.{room}
use Rattle.crush_edits.specs.declared.refusal.Refusal.{Refusal}
use Rattle.crush_edits.specs.declared.refusal.Dones.{Dones}
use Rattle.crush_edits.specs.declared.refusal.BatchFault.{BatchFault}
use Rattle.crush_edits.specs.declared.refusal.BatchFault.TheVariants.{Refused as RefusedAt}
use Rattle.crush_edits.specs.declared.edit.Edit.{Edit}
use Rattle.crush_edits.specs.Setting.{SettingData}
use Rattle.crush_edits.specs.Answer.{refused, done}
use Rattle.crush_edits.specs.Edit.{edit}
use Rattle.crush_edits.specs.Batch.{batch_refused, with_done, and_then, batch, batch_from}
use Rattle.crush_apply.specs.AsBefore.{IsAsBefore}
use Rattle.crush_apply.specs.declared.undo_log.Undo.{Undo}
use Rattle.crush_apply.specs.UndoLog.{RollsBack}

-- equal faults have the same index and the same refusal
pub fault_parts : {X : Type 0} (k index : ℕ) (q r : Refusal) → ◌≡◌ {A = Result X BatchFault} (Err (RefusedAt k q)) (Err (RefusedAt index r)) → (k ≡ index) × (q ≡ r)
fault_parts k index q r h = let one : RefusedAt k q ≡ RefusedAt index r = cc in (cc, cc)

-- a property that holds after every error holds after this one
pub on_err : {X Y : Type 0} {P : Type 0} (x : Result X Y) (e : Y) → x ≡ Err e → OnErr x P → P
on_err (Ok d) e is p = absurd cc
on_err (Err z) e is p = p

-- if the next edit is refused, the batch is refused with its index
pub stops_at : (s : SettingData) (t u : List Row) (es left rest : List Edit) (d : Dones) (e : Edit) (q : Refusal) → batch s t es ≡ batch_from s left d u → left ≡ e ∷ rest → edit s u e ≡ refused q → batch s t es ≡ batch_refused d.edits q
stops_at s t u es left rest d e q begun is told = begun ∙ ap (λ l. batch_from s l d u) is ∙ ap (λ a. and_then d a (batch_from s rest)) told

-- if the next edit is done, the rest of the batch remains
pub goes_on : (s : SettingData) (t u v : List Row) (es left rest : List Edit) (d : Dones) (e : Edit) (c : Bool) (m : ℕ) → batch s t es ≡ batch_from s left d u → left ≡ e ∷ rest → edit s u e ≡ done c m v → batch s t es ≡ batch_from s rest (with_done d c m) v
goes_on s t u v es left rest d e c m begun is told = begun ∙ ap (λ l. batch_from s l d u) is ∙ ap (λ a. and_then d a (batch_from s rest)) told

-- a property that always holds also holds after an error
pub anyway : {X Y : Type 0} {P : Type 0} (x : Result X Y) → P → OnErr x P
anyway (Ok d) p = tt
anyway (Err e) p = p

-- if an edit isn't done, the log still undoes the edits before it
pub kept_back : {A : Type 0} (f g h : ForestData) (log now : List (Undo A)) → RollsBack log g f → h ≡ g → now ≡ log → RollsBack now h f
kept_back f g h log now back same kept = subst (λ z. RollsBack now z f) (sym same) (subst (λ l. RollsBack l g f) (sym kept) back)

-- A HIERARCHY that is equal to the old one is as it was before
pub same_before : (f g : ForestData) → g ≡ f → IsAsBefore f g
same_before f g same = record { stands = λ t st. subst (λ z. Stands z t) (sym same) st; rooms = λ p. ap (λ z. room z p) same }
