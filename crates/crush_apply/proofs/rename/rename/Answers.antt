use Rattle.std.proofs.Common.{List, sym, subst, refl}
use Rattle.crush_units.specs.declared.id.ItemId.TheVariants.{Bucket}
use Rattle.crush_model.specs.Table.{Row}
use Rattle.crush_model.specs.Columns.{set_name}
use Rattle.crush_model.specs.Lawful.{Lawful}
use Rattle.crush_model.specs.Forest.{rows_of}
use Rattle.crush_model.specs.Stands.{Stands}
use Rattle.crush_model.proofs.Stands.{stands_for_rows}
use Rattle.crush_edits.specs.declared.edit.Edit.TheVariants.{Rename}
use Rattle.crush_apply.proofs.Found.{there_by_name}
use Rattle.crush_apply.proofs.Names.{rename_done, rename_lawful}
use Rattle.crush_apply.proofs.RolledBack.{when_brought, when_short, when_unnoted}
use Rattle.crush_apply.proofs.Weights.{refused_edit}
use Rattle.crush_apply.proofs.rename.rename.Goals as goal

pub returns-in_err-bucket : goal.returns-in_err-bucket
returns-in_err-bucket g c = λ s.
    when_unnoted _ _ _ _ _ c.from_residual.ensures.1 refl (λ t st. refused_edit s t (Rename c.args.from.now c.args.to.now) _ (c.in_err-bucket.ensures.refused s t st))

pub returns-in_err-clone : goal.returns-in_err-clone
returns-in_err-clone g c = λ s.
    when_short _ _ _ _ c.from_residual-in_err-clone.ensures.1 refl
    (λ t st. (0, set_name (Bucket c.in_ok-bucket.bucket) c.args.to.now t, rename_done s t c.args.from.now c.args.to.now c.in_ok-bucket.bucket st.lawful (c.in_ok-bucket.ensures.can t st)))

pub returns-in_err-name : goal.returns-in_err-name
returns-in_err-name g c = λ s.
    when_short _ _ _ _ c.from_residual-in_err-name.ensures.1 refl
    (λ t st. (0, set_name (Bucket c.in_ok-bucket.bucket) c.args.to.now t, rename_done s t c.args.from.now c.args.to.now c.in_ok-bucket.bucket st.lawful (c.in_ok-bucket.ensures.can t st)))

pub replace_name-requires : goal.replace_name-requires
replace_name-requires g c = record {
  there = there_by_name (rows_of c.args.hierarchy.now) c.args.from.now (Bucket c.in_ok-bucket.bucket) (c.in_ok-bucket.ensures.can (rows_of c.args.hierarchy.now) (stands_for_rows c.args.hierarchy.now c.recall_invariant.ensures)).named;
  fits =
      let t : List Row = rows_of c.args.hierarchy.now in
      let can = c.in_ok-bucket.ensures.can t (stands_for_rows c.args.hierarchy.now c.recall_invariant.ensures) in
      subst (λ n. Lawful (set_name (Bucket c.in_ok-bucket.bucket) n t)) (sym c.in_ok-name.ensures)
      (rename_lawful t c.args.from.now c.args.to.now c.in_ok-bucket.bucket c.recall_invariant.ensures.lawful c.as_bytes-form.ensures.name can);
}

pub returns-in_err-old : goal.returns-in_err-old
returns-in_err-old g c = λ s.
    when_short _ _ _ _ c.from_residual-in_err-old.ensures.1 c.in_err-old.ensures.err
    (λ t st. (0, set_name (Bucket c.in_ok-bucket.bucket) c.args.to.now t, rename_done s t c.args.from.now c.args.to.now c.in_ok-bucket.bucket st.lawful (c.in_ok-bucket.ensures.can t st)))

pub returns : goal.returns
returns g c = λ s.
    let b = c.in_ok-bucket.bucket in
    when_brought _ _ _ _ 0 _ refl
    (λ t st. (
      set_name (Bucket b) c.args.to.now t,
      rename_done s t c.args.from.now c.args.to.now b st.lawful (c.in_ok-bucket.ensures.can t st),
      subst (λ n. Stands c.replace_name.new.self (set_name (Bucket b) n t)) c.in_ok-name.ensures (c.in_ok-old.ensures.stands t st),
    ))
    (record { can = c.in_ok-old.ensures.can; is = c.in_ok-old.ensures.back })
