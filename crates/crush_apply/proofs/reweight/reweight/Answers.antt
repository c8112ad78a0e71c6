use Rattle.std.proofs.Common.{true, refl}
use Rattle.crush_model.specs.Forest.{rows_of}
use Rattle.crush_model.proofs.Stands.{stands_for_rows}
use Rattle.crush_edits.specs.declared.edit.Edit.TheVariants.{Reweight}
use Rattle.crush_edits.specs.declared.refusal.Refusal.TheVariants.{SumTooLarge}
use Rattle.crush_apply.proofs.Refused.{no_want}
use Rattle.crush_edits.proofs.Edits.{not_heavy}
use Rattle.crush_apply.proofs.Weights.{refused_edit, too_heavy, reweight_refusal}
use Rattle.crush_apply.proofs.RolledBack.{when_noted, when_unnoted}
use Rattle.crush_apply.proofs.reweight.reweight.Goals as goal

pub replace_weight-requires : goal.replace_weight-requires
replace_weight-requires g c =
    let can = c.in_ok-device.ensures.can (rows_of c.args.hierarchy.now) (stands_for_rows c.args.hierarchy.now c.recall_invariant.ensures) in
    record { placed = can.placed; light = not_heavy c.args.weight can.light }

pub returns-in_err-device-clause-answers : goal.returns-in_err-device-clause-answers
returns-in_err-device-clause-answers g c = λ s.
    when_unnoted _ _ _ _ _ c.from_residual.ensures.1 refl (λ t st. refused_edit s t (Reweight c.args.name.now c.args.weight) _ (c.in_err-device.ensures.refused s t st))

pub returns-in_err-device-clause-memory : goal.returns-in_err-device-clause-memory
returns-in_err-device-clause-memory g c = no_want _ _ c.from_residual.ensures.1

pub returns-in_default-clause-answers : goal.returns-in_default-clause-answers
returns-in_default-clause-answers g c = λ s.
    when_unnoted _ _ _ SumTooLarge _ refl c.in_default.ensures.none (λ t st. refused_edit s t (Reweight c.args.name.now c.args.weight) _ (reweight_refusal s t c.args.name.now c.args.weight c.in_ok-device.device (c.in_ok-device.ensures.can t st) true (too_heavy _ (c.in_default.ensures.fits t st))))

pub returns-clause-answers : goal.returns-clause-answers
returns-clause-answers g c = λ s. when_noted _ _ s c.args.name.now c.args.weight c.in_ok-device.device c.in-Some.before c.ne.result c.recall_invariant.ensures c.in_ok-device.ensures.can c.in-Some.ensures c.ne.ensures
