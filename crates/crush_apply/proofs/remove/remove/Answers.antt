use Rattle.std.proofs.Common.{◌≡◌, true, false, refl, sym, ◌∙◌, true≢false}
use Rattle.crush_model.specs.Columns.{table_without}
use Rattle.crush_model.specs.Forest.{rows_of}
use Rattle.crush_model.proofs.Stands.{stands_for_rows}
use Rattle.crush_edits.specs.declared.edit.Edit.TheVariants.{Remove}
use Rattle.crush_apply.proofs.Answered.{when_changed}
use Rattle.crush_apply.proofs.Found.{there_by_name}
use Rattle.crush_apply.proofs.Refused.{no_want}
use Rattle.crush_apply.proofs.RolledBack.{noted_anyway, noted_if, noted_lacking, when_unnoted}
use Rattle.crush_apply.proofs.Singles.{remove_done}
use Rattle.crush_apply.proofs.Weights.{refused_edit}
use Rattle.crush_apply.proofs.remove.remove.Goals as goal

pub remove_logged-requires-clause-there : goal.remove_logged-requires-clause-there
remove_logged-requires-clause-there g c = there_by_name (rows_of c.args.hierarchy.now) c.args.name.now c.in_ok-id.id (c.in_ok-id.ensures.can (rows_of c.args.hierarchy.now) (stands_for_rows c.args.hierarchy.now c.recall_invariant.ensures)).named

pub unreachable-requires : goal.unreachable-requires
unreachable-requires g c =
    let st = stands_for_rows c.args.hierarchy.now c.recall_invariant.ensures in
    let there = there_by_name (rows_of c.args.hierarchy.now) c.args.name.now c.in_ok-id.id (c.in_ok-id.ensures.can (rows_of c.args.hierarchy.now) st).named in
    let no : false ≡ true = c.in_default.ensures.there (rows_of c.args.hierarchy.now) st ∙ there in cc

pub returns-in_err-id : goal.returns-in_err-id
returns-in_err-id g c = noted_anyway _ _ _ _ _ _
    (when_unnoted _ _ _ _ _ c.from_residual.ensures.1 refl (λ t st. refused_edit c.args.setting.now t (Remove c.args.name.now) _ (c.in_err-id.ensures.refused t st)))
    (λ is. absurd (no_want _ _ c.from_residual.ensures.1 is))

pub returns-in_err-removed : goal.returns-in_err-removed
returns-in_err-removed g c = noted_lacking _ _ _ _ _ _ c.if-logged.true c.from_residual-in_err-removed.ensures.1 c.in_err-removed.ensures.err

pub returns-then-logged : goal.returns-then-logged
returns-then-logged g c = noted_if _ _ _ _ _ _ _
    (when_changed _ _ _ _ (λ t st.
    let i = c.in_ok-id.id in
    (table_without i t, remove_done c.args.setting.now t c.args.name.now i (c.in_ok-id.ensures.can t st), c.in_ok-removed.ensures.stands t st)))
    (λ logged. record { can = c.in_ok-removed.ensures.can; is = c.in_ok-removed.ensures.back })

pub returns : goal.returns
returns g c = noted_if _ _ _ _ _ _ _
    (when_changed _ _ _ _ (λ t st.
    let i = c.in_ok-id.id in
    (table_without i t, remove_done c.args.setting.now t c.args.name.now i (c.in_ok-id.ensures.can t st), c.in-Some.ensures.stands t st)))
    (λ logged. absurd (true≢false (sym logged ∙ c.if-logged.false)))
