use Rattle.std.proofs.Common.{◌≡◌, Bool, true, refl, sym, subst}
use Rattle.std.specs.Prelude.{Option, Result, Err}
use Rattle.crush_model.specs.Forest.{ForestData}
use Rattle.crush_edits.specs.declared.edit.Edit.{Edit}
use Rattle.crush_edits.specs.declared.refusal.Done.{Done}
use Rattle.crush_edits.specs.declared.refusal.EditFault.{EditFault}
use Rattle.crush_edits.specs.declared.refusal.EditFault.TheVariants.{OutOfMemory}
use Rattle.crush_edits.specs.Edit.{edit, takes_memory}
use Rattle.crush_edits.specs.Setting.{SettingData}
use Rattle.crush_apply.specs.declared.undo_log.Undo.{Undo}
use Rattle.crush_apply.specs.UndoLog.{AnswersLogged, AnswersLoggedIf}
use Rattle.crush_apply.proofs.RolledBack.{noted_anyway}
use Rattle.crush_apply.proofs.apply.make.Goals as goal

-- if the edits e and d are equal, what is promised for d is promised for e
made : {A : Type 0} (s : SettingData) (e d : Edit) (logged : Bool) (f g : ForestData) (x : Result (Done × Option (Undo A)) EditFault) → e ≡ d → AnswersLoggedIf logged (takes_memory d) (λ t. edit s t d) f g x → AnswersLoggedIf logged (takes_memory e) (λ t. edit s t e) f g x
made s e d logged f g x is told = subst (λ z. AnswersLoggedIf logged (takes_memory z) (λ t. edit s t z) f g x) (sym is) told

-- the same for a call that always returns what undoes the edit
noted : {A : Type 0} (s : SettingData) (e d : Edit) (logged : Bool) (f g : ForestData) (x : Result (Done × Option (Undo A)) EditFault) → e ≡ d → AnswersLogged (λ t. edit s t d) f g x → (x ≡ Err OutOfMemory → takes_memory d ≡ true) → AnswersLoggedIf logged (takes_memory e) (λ t. edit s t e) f g x
noted s e d logged f g x is told memory = made s e d logged f g x is (noted_anyway logged (takes_memory d) (λ t. edit s t d) f g x told memory)

pub returns-in-Place-clause-answers : goal.returns-in-Place-clause-answers
returns-in-Place-clause-answers g c = noted c.args.setting.now _ _ _ _ _ _ c.in-Place.is c.place.ensures (λ lacks. refl)

pub returns-in-Move-clause-answers : goal.returns-in-Move-clause-answers
returns-in-Move-clause-answers g c = noted c.args.setting.now _ _ _ _ _ _ c.in-Move.is c.relocate.ensures (λ lacks. refl)

pub returns-in-AddBucket-clause-answers : goal.returns-in-AddBucket-clause-answers
returns-in-AddBucket-clause-answers g c = noted c.args.setting.now _ _ _ _ _ _ c.in-AddBucket.is c.add_bucket.ensures (λ lacks. refl)

pub returns-in-Rename-clause-answers : goal.returns-in-Rename-clause-answers
returns-in-Rename-clause-answers g c = noted c.args.setting.now _ _ _ _ _ _ c.in-Rename.is (c.rename.ensures c.args.setting.now) (λ lacks. refl)

pub returns-in-SetClass-clause-answers : goal.returns-in-SetClass-clause-answers
returns-in-SetClass-clause-answers g c = noted c.args.setting.now _ _ _ _ _ _ c.in-SetClass.is (c.set_class.ensures c.args.setting.now) (λ lacks. refl)

pub returns-in-Swap-clause-answers : goal.returns-in-Swap-clause-answers
returns-in-Swap-clause-answers g c = noted c.args.setting.now _ _ _ _ _ _ c.in-Swap.is (c.swap.ensures.answers c.args.setting.now) (λ lacks. absurd (c.swap.ensures.memory lacks))

pub returns-in-Reweight-clause-answers : goal.returns-in-Reweight-clause-answers
returns-in-Reweight-clause-answers g c = noted c.args.setting.now _ _ _ _ _ _ c.in-Reweight.is (c.reweight.ensures.answers c.args.setting.now) (λ lacks. absurd (c.reweight.ensures.memory lacks))

pub returns-in-RemoveClass-clause-answers : goal.returns-in-RemoveClass-clause-answers
returns-in-RemoveClass-clause-answers g c = noted c.args.setting.now _ _ _ _ _ _ c.in-RemoveClass.is (c.remove_class.ensures.answers c.args.setting.now) (λ lacks. absurd (c.remove_class.ensures.memory lacks))

pub returns-in-ReweightSubtree-clause-answers : goal.returns-in-ReweightSubtree-clause-answers
returns-in-ReweightSubtree-clause-answers g c = made c.args.setting.now _ _ _ _ _ _ c.in-ReweightSubtree.is (c.reweight_subtree.ensures.answers c.args.setting.now)

pub returns-in-Remove-clause-answers : goal.returns-in-Remove-clause-answers
returns-in-Remove-clause-answers g c = made c.args.setting.now _ _ _ _ _ _ c.in-Remove.is c.remove.ensures
