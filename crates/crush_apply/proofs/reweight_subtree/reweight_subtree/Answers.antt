use Rattle.std.proofs.Common.{true, refl}
use Rattle.crush_units.specs.declared.id.ItemId.TheVariants.{Bucket}
use Rattle.crush_model.specs.Columns.{set_subtree}
use Rattle.crush_model.specs.Forest.{rows_of}
use Rattle.crush_model.proofs.Stands.{stands_for_rows}
use Rattle.crush_edits.specs.declared.edit.Edit.TheVariants.{ReweightSubtree}
use Rattle.crush_edits.specs.declared.refusal.Refusal.TheVariants.{SumTooLarge}
use Rattle.crush_edits.proofs.Edits.{not_heavy}
use Rattle.crush_apply.proofs.Answered.{when_done}
use Rattle.crush_apply.proofs.Found.{there_by_name}
use Rattle.crush_apply.proofs.Refused.{no_want}
use Rattle.crush_apply.proofs.RolledBack.{noted_anyway, noted_if, noted_lacking, when_unnoted}
use Rattle.crush_apply.proofs.Weights.{refused_edit, fitting, too_heavy, subtree_refusal, subtree_done}
use Rattle.crush_apply.proofs.reweight_subtree.reweight_subtree.Goals as goal

pub returns-in_err-bucket-clause-answers : goal.returns-in_err-bucket-clause-answers
returns-in_err-bucket-clause-answers g c = λ s. noted_anyway _ _ _ _ _ _
    (when_unnoted _ _ _ _ _ c.from_residual.ensures.1 refl (λ t st. refused_edit s t (ReweightSubtree c.args.name.now c.args.weight) _ (c.in_err-bucket.ensures.refused s t st)))
    (λ is. absurd (no_want _ _ c.from_residual.ensures.1 is))

pub weights_below-requires : goal.weights_below-requires
weights_below-requires g c =
    let t = rows_of c.args.hierarchy.now in
    there_by_name t c.args.name.now (Bucket c.in_ok-bucket.bucket) (c.in_ok-bucket.ensures.can t (stands_for_rows c.args.hierarchy.now c.recall_invariant.ensures)).named

pub returns-in_err-undo-clause-answers : goal.returns-in_err-undo-clause-answers
returns-in_err-undo-clause-answers g c = λ s. noted_lacking _ _ _ _ _ _ c.in_err-undo.ensures.memory c.from_residual-in_err-undo.ensures.1 refl

pub replace_subtree-requires : goal.replace_subtree-requires
replace_subtree-requires g c =
    let can = c.in_ok-bucket.ensures.can (rows_of c.args.hierarchy.now) (stands_for_rows c.args.hierarchy.now c.recall_invariant.ensures) in
    record { there = there_by_name (rows_of c.args.hierarchy.now) c.args.name.now (Bucket c.in_ok-bucket.bucket) can.named; light = not_heavy c.args.weight can.light }

pub returns-in_default-clause-answers : goal.returns-in_default-clause-answers
returns-in_default-clause-answers g c = λ s. noted_anyway _ _ _ _ _ _
    (when_unnoted _ _ _ SumTooLarge _ refl c.in_default.ensures.none
    (λ t st. refused_edit s t (ReweightSubtree c.args.name.now c.args.weight) _ (subtree_refusal s t c.args.name.now c.args.weight c.in_ok-bucket.bucket (c.in_ok-bucket.ensures.can t st) true (too_heavy _ (c.in_default.ensures.fits t st)))))
    (λ is. absurd cc)

pub returns-clause-answers : goal.returns-clause-answers
returns-clause-answers g c = λ s. noted_if _ _ _ _ _ _ _
    (when_done _ _ _ _ c.in-Some.ensures.same (λ t st.
    let b = c.in_ok-bucket.bucket in
    let w = c.args.weight in (
      set_subtree b w t,
      subtree_done s t c.args.name.now w b (c.in_ok-bucket.ensures.can t st) (fitting _ (c.in-Some.ensures.fits t st)) c.in-Some.change.other (c.in-Some.ensures.other t st),
      c.in-Some.ensures.stands t st,
    )))
    (λ logged. c.in_ok-undo.ensures.back logged c.args.weight _ c.in-Some.change c.in-Some.ensures)
