use Rattle.std.proofs.Common.{◌≡◌, ℕ, ◌-◌, List, [], ◌++◌, take, ap, sym, subst, ◌∙◌, append-nil}
use Rattle.crush_model.specs.Forest.{ForestData}
use Rattle.crush_apply.specs.UndoLog.{RollsBack}
use Rattle.crush_apply.proofs.RolledBack.{popped}
use Rattle.crush_apply.proofs.undo_log.roll_back.Goals as goal

pub loop-undo-init : goal.loop-undo-init
loop-undo-init g c = (c.requires, λ f back. back)

pub undo_one-requires : goal.undo_one-requires
undo_one-requires g c =
    let can = c.loop-undo.invariant.0 in
    let last = popped c.loop-undo.log.items c.pop.new.self.items c.in-Some.undo _ can.0 c.in-Some.ensures.items can.1 in
    (last.0, last.1)

pub loop-undo-preserved : goal.loop-undo-preserved
loop-undo-preserved g c =
    let step : (f : ForestData) → RollsBack c.loop-undo.log.items c.loop-undo.hierarchy f → RollsBack c.pop.new.self.items c.undo_one.new.hierarchy f = λ f back.
    let last = popped c.loop-undo.log.items c.pop.new.self.items c.in-Some.undo c.loop-undo.hierarchy f c.in-Some.ensures.items back in
    subst (λ z. RollsBack c.pop.new.self.items z f) (sym (c.undo_one.ensures last.0 last.1)) last.2 in
    ((c.loop-undo.invariant.0.0, step c.loop-undo.invariant.0.0 c.loop-undo.invariant.0.1), λ f back. step f (c.loop-undo.invariant.1 f back))

nothing_left : {X : Type 0} (log rest : List X) (n : ℕ) → log ≡ rest ++ [] → rest ≡ take (n - 1) log → n ≡ 0 → log ≡ []
nothing_left log rest n is left none = is ∙ append-nil rest ∙ left ∙ ap (λ k. take (k - 1) log) none

pub returns : goal.returns
returns g c = λ f back.
    let last = c.in_default.ensures in
    subst (λ l. RollsBack l c.loop-undo.hierarchy f) (nothing_left c.loop-undo.log.items c.pop.new.self.items _ last.items last.rest last.cases.0) (c.loop-undo.invariant.1 f back)
