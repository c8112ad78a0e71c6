use Rattle.std.proofs.Common.{rules, List, [], ◌∷◌, ◌++◌, sym, subst, refl}
use Rattle.std.specs.Prelude.{None}
use Rattle.crush_model.specs.Items.{Items}
use Rattle.crush_model.specs.ItemRows.{rows, bucket_row}
use Rattle.crush_model.specs.Table.{Row}
use Rattle.crush_model.specs.Lawful.{Lawful}
use Rattle.crush_model.specs.Forest.{rows_of}
use Rattle.crush_model.specs.Stands.{Stands}
use Rattle.crush_model.proofs.Stands.{stands_for_rows}
use Rattle.crush_edits.specs.declared.edit.Edit.TheVariants.{AddBucket}
use Rattle.crush_edits.specs.Put.{new_header}
use Rattle.crush_apply.proofs.RolledBack.{when_brought, when_short, when_unnoted}
use Rattle.crush_apply.proofs.Singles.{add_bucket_done, add_bucket_lawful}
use Rattle.crush_apply.proofs.Weights.{refused_edit}
use Rattle.crush_apply.proofs.add_bucket.add_bucket.Goals as goal

pub returns-in_err-number : goal.returns-in_err-number
returns-in_err-number g c =
    when_unnoted _ _ _ _ _ c.from_residual.ensures.1 refl
    (λ t st. refused_edit c.args.setting.now t (AddBucket c.args.name.now c.args.kind.now) _ (c.in_err-number.ensures.refused t st))

pub returns-in_err-node : goal.returns-in_err-node
returns-in_err-node g c =
    when_short _ _ _ _ c.from_residual-in_err-node.ensures.1 refl
    (λ t st. (1, _, add_bucket_done c.args.setting.now t c.args.name.now c.args.kind.now c.in_ok-number.number c.first_free-id.result st.lawful (c.in_ok-number.ensures.can t st) (c.first_free-id.ensures t st)))

pub returns-in_err-addition : goal.returns-in_err-addition
returns-in_err-addition g c =
    when_short _ _ _ _ c.from_residual-in_err-addition.ensures.1 c.in_err-addition.ensures.adds.err
    (λ t st. (1, _, add_bucket_done c.args.setting.now t c.args.name.now c.args.kind.now c.in_ok-number.number c.first_free-id.result st.lawful (c.in_ok-number.ensures.can t st) (c.first_free-id.ensures t st)))

pub add_logged-requires : goal.add_logged-requires
add_logged-requires g c = record {
  there = refl;
  sums = search rules;
  kind = search rules;
  fits =
      let t : List Row = rows_of c.args.hierarchy.now in
      let st = stands_for_rows c.args.hierarchy.now c.recall_invariant.ensures in
      let lawful = add_bucket_lawful c.args.setting.now t c.args.name.now c.args.kind.now c.in_ok-number.number c.first_free-id.result c.recall_invariant.ensures.lawful c.requires c.as_bytes-form.ensures.name (c.in_ok-number.ensures.can t st) (c.first_free-id.ensures t st) in
      subst (λ (n : Items). Lawful (t ++ rows None n)) (sym c.in_ok-node.ensures) lawful;
}

pub returns : goal.returns
returns g c =
    when_brought _ _ _ _ 1 _ refl
    (λ t st. (
      t ++ bucket_row None (new_header (record { id = c.first_free-id.result; kind = c.in_ok-number.number; name = c.args.name.now })) ∷ [],
      add_bucket_done c.args.setting.now t c.args.name.now c.args.kind.now c.in_ok-number.number c.first_free-id.result st.lawful (c.in_ok-number.ensures.can t st) (c.first_free-id.ensures t st),
      subst (λ (n : Items). Stands c.add_logged.new.hierarchy (t ++ rows None n)) c.in_ok-node.ensures (c.in_ok-addition.ensures.adds.stands t st),
    ))
    c.in_ok-addition.ensures.goes
