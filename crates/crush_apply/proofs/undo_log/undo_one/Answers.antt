use Rattle.std.proofs.Common.{sym, subst, ◌∙◌}
use Rattle.crush_apply.specs.UndoLog.{Undoes}
use Rattle.crush_apply.specs.UndoSteps.{UndoesAddition}
use Rattle.crush_apply.proofs.RolledBack.{weight_taken_back}
use Rattle.crush_apply.proofs.undo_log.undo_one.Goals as goal

pub replace_weight-weight-requires : goal.replace_weight-weight-requires
replace_weight-weight-requires g c =
    let back = subst (λ u. Undoes u c.args.hierarchy.now c.requires.0) c.in-Weight.is c.requires.1 in
    record { placed = back.placed; light = back.light }

pub returns-in-Weight : goal.returns-in-Weight
returns-in-Weight g c = λ f back.
    weight_taken_back c.args.hierarchy.now _ f c.in-Weight.device c.in-Weight.weight _ c.recall_invariant.ensures c.replace_weight-weight.ensures (subst (λ u. Undoes u c.args.hierarchy.now f) c.in-Weight.is back)

pub give_weights-requires : goal.give_weights-requires
give_weights-requires g c = (subst (λ u. Undoes u c.args.hierarchy.now c.requires.0) c.in-Weights.is c.requires.1).can

pub returns-in-Weights : goal.returns-in-Weights
returns-in-Weights g c = λ f back. c.give_weights.ensures ∙ sym (subst (λ u. Undoes u c.args.hierarchy.now f) c.in-Weights.is back).is

pub swap-requires : goal.swap-requires
swap-requires g c = (subst (λ u. Undoes u c.args.hierarchy.now c.requires.0) c.in-Exchange.is c.requires.1).can

pub returns-in-Exchange : goal.returns-in-Exchange
returns-in-Exchange g c = λ f back. c.swap.ensures.is ∙ sym (subst (λ u. Undoes u c.args.hierarchy.now f) c.in-Exchange.is back).is

pub set_class-class-requires : goal.set_class-class-requires
set_class-class-requires g c = (subst (λ u. Undoes u c.args.hierarchy.now c.requires.0) c.in-Class.is c.requires.1).there

pub returns-in-Class : goal.returns-in-Class
returns-in-Class g c = λ f back. c.set_class-class.ensures.is ∙ sym (subst (λ u. Undoes u c.args.hierarchy.now f) c.in-Class.is back).is

pub restore-requires : goal.restore-requires
restore-requires g c = (subst (λ u. Undoes u c.args.hierarchy.now c.requires.0) c.in-Removed.is c.requires.1).can

pub returns-in-Removed : goal.returns-in-Removed
returns-in-Removed g c = λ f back. c.restore.ensures ∙ sym (subst (λ u. Undoes u c.args.hierarchy.now f) c.in-Removed.is back).is

pub restore_name-requires : goal.restore_name-requires
restore_name-requires g c = (subst (λ u. Undoes u c.args.hierarchy.now c.requires.0) c.in-Renamed.is c.requires.1).can

pub returns-in-Renamed : goal.returns-in-Renamed
returns-in-Renamed g c = λ f back. c.restore_name.ensures ∙ sym (subst (λ u. Undoes u c.args.hierarchy.now f) c.in-Renamed.is back).is

pub undo_addition-requires : goal.undo_addition-requires
undo_addition-requires g c = (c.requires.0, subst (λ u. Undoes u c.args.hierarchy.now c.requires.0) c.in-Arrived.is c.requires.1)

pub returns-in-Arrived : goal.returns-in-Arrived
returns-in-Arrived g c = λ f back. c.undo_addition.ensures f (subst (λ u. Undoes u c.args.hierarchy.now f) c.in-Arrived.is back)

pub move_back-requires : goal.move_back-requires
move_back-requires g c = let back = subst (λ u. Undoes u c.args.hierarchy.now c.requires.0) c.in-Moved.is c.requires.1 in (back.stood, back.back)

pub undo_addition-requires-in-Moved : goal.undo_addition-requires-in-Moved
undo_addition-requires-in-Moved g c =
    let back = subst (λ u. Undoes u c.args.hierarchy.now c.requires.0) c.in-Moved.is c.requires.1 in
    (c.requires.0, subst (λ z. UndoesAddition c.in-Moved.addition z c.requires.0) (sym (c.move_back.ensures back.stood back.back)) back.goes)

pub returns-in-Moved : goal.returns-in-Moved
returns-in-Moved g c = λ f h.
    let back = subst (λ u. Undoes u c.args.hierarchy.now f) c.in-Moved.is h in
    c.undo_addition-in-Moved.ensures f (subst (λ z. UndoesAddition c.in-Moved.addition z f) (sym (c.move_back.ensures back.stood back.back)) back.goes)
