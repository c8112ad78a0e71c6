-- The undo log of a batch. The definitions say which forest results when an entry of the log is used to undo an edit. In all definitions, g is the forest before the edit is undone, and f is the forest after it is undone.
use Rattle.std.specs.Prelude.{◌≡◌, ℕ, ◌≤◌, List, [], ◌∷◌, Option, Some, None, Result, Ok, Err, IfOk, Bool, true, false}
use Rattle.crush_units.specs.declared.id.ItemId.TheVariants.{Device, Bucket}
use Rattle.crush_units.specs.declared.limits.TheConstants.{HEAVIEST_DEVICE}
use Rattle.crush_model.specs.Table.{Row, is_there, is_placed}
use Rattle.crush_model.specs.Columns.{set_weight}
use Rattle.crush_model.specs.Forest.{ForestData, rows_of}
use Rattle.crush_model.specs.Lawful.{is_too_heavy}
use Rattle.crush_tree.specs.Required.{CanGiveWeights, CanSwap}
use Rattle.crush_tree.specs.Exact.{forest_swapped, forest_with_class, forest_with_name, forest_with_weight, forest_with_weights}
use Rattle.crush_tree.specs.Runs.{weights_of}
use Rattle.crush_hierarchy.specs.Naming.{CanRestoreName}
use Rattle.crush_hierarchy.specs.Removing.{forest_restored, CanRestore}
use Rattle.crush_hierarchy.specs.declared.hierarchy.renamed.OldName.{OldName}
use Rattle.crush_hierarchy.specs.declared.hierarchy.removed_item.RemovedItem.{RemovedItem}
use Rattle.crush_edits.specs.declared.refusal.Done.{Done}
use Rattle.crush_edits.specs.declared.refusal.EditFault.{EditFault}
use Rattle.crush_edits.specs.declared.refusal.EditFault.TheVariants.{OutOfMemory}
use Rattle.crush_edits.specs.Answer.{Answer}
use Rattle.crush_apply.specs.declared.undo_log.Undo.{Undo}
use Rattle.crush_apply.specs.declared.undo_log.Undo.TheVariants.{Weight, Class, Weights, Exchange, Removed, Renamed, Arrived, Moved}
use Rattle.crush_apply.specs.Answered.{AnswersAs, Makes}
use Rattle.crush_apply.specs.UndoSteps.{UndoesAddition, Returns}

-- if the device d of the forest g gets the weight w, the result is f; the device is in a bucket, and the weight w and the sums after the change are in range
pub record GivesWeight (d w : ℕ) (g f : ForestData) : Type 0 where
  pub placed : is_placed (rows_of g) (Device d) ≡ true
  pub light : w ≤ HEAVIEST_DEVICE
  pub fits : is_too_heavy (set_weight (Device d) w (rows_of g)) ≡ false
  pub is : f ≡ forest_with_weight d w g

-- if the device d of the forest g gets this class, or loses its class if None is given, the result is f
pub record GivesClass (d : ℕ) (class : Option (List ℕ)) (g f : ForestData) : Type 0 where
  pub there : is_there (rows_of g) (Device d) ≡ true
  pub is : f ≡ forest_with_class d class g

-- if the devices below the bucket b of the forest g get the weights ws, the result is f
pub record GivesWeights (b : ℕ) (ws : List ℕ) (g f : ForestData) : Type 0 where
  pub can : CanGiveWeights b ws g
  pub is : f ≡ forest_with_weights b ws g

-- if the buckets a and b of the forest g are swapped, the result is f
pub record GivesSwap (a b : ℕ) (g f : ForestData) : Type 0 where
  pub can : CanSwap a b g
  pub is : f ≡ forest_swapped a b g

-- if the removed item is put back into the forest g, the result is f
pub record ComesBack {A : Type 0} (removed : RemovedItem A) (g f : ForestData) : Type 0 where
  pub can : CanRestore removed g
  pub is : f ≡ forest_restored removed g

-- if the bucket b of the forest g gets back its old name, the result is f
pub record GivesName {A : Type 0} (b : ℕ) (old : OldName A) (g f : ForestData) : Type 0 where
  pub can : CanRestoreName (Bucket b) old g
  pub is : f ≡ forest_with_name (Bucket b) old.name g

-- if the entry is used to undo an edit in the forest g, the result is exactly the forest f: the same items in the same order, with the same room in each place
abbrev pub Undoes : {A : Type 0} → Undo A → ForestData → ForestData → Type 0
Undoes (Weight d w) g f = GivesWeight d w g f
Undoes (Class d class) g f = GivesClass d class g f
Undoes (Weights b runs) g f = GivesWeights b (weights_of runs.items) g f
Undoes (Exchange a b) g f = GivesSwap a b g f
Undoes (Removed removed) g f = ComesBack removed g f
Undoes (Renamed b old) g f = GivesName b old g f
Undoes (Arrived addition) g f = UndoesAddition addition g f
Undoes (Moved old_stand addition) g f = Returns old_stand addition g f

-- the same for an entry that may be missing: if there is no entry, g equals f
abbrev pub UndoesAny : {A : Type 0} → Option (Undo A) → ForestData → ForestData → Type 0
UndoesAny None g f = g ≡ f
UndoesAny (Some undo) g f = Undoes undo g f

-- if all entries of a log are used to undo their edits in the forest g, beginning with the last entry, the result is f
abbrev pub RollsBack : {A : Type 0} → List (Undo A) → ForestData → ForestData → Type 0
RollsBack [] g f = g ≡ f
RollsBack (undo ∷ log) g f = (e : ForestData) × RollsBack log g e × Undoes undo e f

-- the entry can be used to undo its edit in the forest g
abbrev pub CanUndo : {A : Type 0} → Undo A → ForestData → Type 0
CanUndo undo g = (f : ForestData) × Undoes undo g f

-- all entries of the log can be used to undo their edits in the forest g, beginning with the last entry
abbrev pub CanRollBack : {A : Type 0} → List (Undo A) → ForestData → Type 0
CanRollBack log g = (f : ForestData) × RollsBack log g f

-- the list that has only this entry, or the empty list if the entry is missing
abbrev pub as_list : {A : Type 0} → Option (Undo A) → List (Undo A)
as_list None = []
as_list (Some undo) = undo ∷ []

-- the result of an edit, without the entry for the undo log
abbrev pub done_alone : {A : Type 0} → Result (Done × Option (Undo A)) EditFault → Result Done EditFault
done_alone (Ok x) = Ok x.0
done_alone (Err e) = Err e

-- the result x is right, as AnswersAs defines it, and undoing the edit in g with the returned entry results in f
pub record AnswersLogged {A : Type 0} (a : List Row → Answer) (f g : ForestData) (x : Result (Done × Option (Undo A)) EditFault) : Type 0 where
  pub answers : AnswersAs a f g (done_alone x)
  pub logged : IfOk x (λ z. UndoesAny z.1 g f)

-- a similar definition for a call that need not return a right entry for the undo log if `logged` is false. If `logged` is true, undoing the edit with the returned entry results in f, but the result x need only be right as Makes defines it: the call may run out of memory whatever the edit gives for the table. If `logged` is false, the result x is right as AnswersAs defines it, and the call runs out of memory only if `takes` is true
pub record AnswersLoggedIf {A : Type 0} (logged takes : Bool) (a : List Row → Answer) (f g : ForestData) (x : Result (Done × Option (Undo A)) EditFault) : Type 0 where
  pub makes : Makes a f g (done_alone x)
  pub exact : logged ≡ false → AnswersAs a f g (done_alone x)
  pub back : logged ≡ true → IfOk x (λ z. UndoesAny z.1 g f)
  pub memory : logged ≡ false → x ≡ Err OutOfMemory → takes ≡ true
