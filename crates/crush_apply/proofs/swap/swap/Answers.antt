use Rattle.std.proofs.Common.{refl}
use Rattle.crush_units.specs.declared.id.ItemId.TheVariants.{Bucket}
use Rattle.crush_model.specs.Columns.{swap_buckets}
use Rattle.crush_model.specs.Forest.{rows_of}
use Rattle.crush_model.proofs.Stands.{stands_for_rows}
use Rattle.crush_edits.specs.declared.edit.Edit.TheVariants.{Swap}
use Rattle.crush_apply.proofs.Answered.{when_changed}
use Rattle.crush_apply.proofs.Found.{there_by_name}
use Rattle.crush_apply.proofs.Names.{swap_done, swap_lawful}
use Rattle.crush_apply.proofs.Refused.{no_want}
use Rattle.crush_apply.proofs.RolledBack.{when_unnoted}
use Rattle.crush_apply.proofs.Weights.{refused_edit}
use Rattle.crush_apply.proofs.swap.swap.Goals as goal

pub returns-in_err-first-clause-answers : goal.returns-in_err-first-clause-answers
returns-in_err-first-clause-answers g c = λ s.
    when_unnoted _ _ _ _ _ c.from_residual.ensures.1 refl (λ t st. refused_edit s t (Swap c.args.a.now c.args.b.now) _ (c.in_err-first.ensures.refused s t st))

pub returns-in_err-first-clause-memory : goal.returns-in_err-first-clause-memory
returns-in_err-first-clause-memory g c = no_want _ _ c.from_residual.ensures.1

pub swap-requires : goal.swap-requires
swap-requires g c = record {
  there_a = there_by_name (rows_of c.args.hierarchy.now) c.args.a.now (Bucket c.in_ok-first.first) (c.in_ok-first.ensures.can (rows_of c.args.hierarchy.now) (stands_for_rows c.args.hierarchy.now c.recall_invariant.ensures)).first;
  there_b = there_by_name (rows_of c.args.hierarchy.now) c.args.b.now (Bucket c.in_ok-first.second) (c.in_ok-first.ensures.can (rows_of c.args.hierarchy.now) (stands_for_rows c.args.hierarchy.now c.recall_invariant.ensures)).second;
  apart = (c.in_ok-first.ensures.can (rows_of c.args.hierarchy.now) (stands_for_rows c.args.hierarchy.now c.recall_invariant.ensures)).apart;
  fits =
      swap_lawful (rows_of c.args.hierarchy.now) c.args.a.now c.args.b.now c.in_ok-first.first c.in_ok-first.second c.recall_invariant.ensures.lawful
      (c.in_ok-first.ensures.can (rows_of c.args.hierarchy.now) (stands_for_rows c.args.hierarchy.now c.recall_invariant.ensures));
}

pub returns-clause-answers : goal.returns-clause-answers
returns-clause-answers g c = λ s. record {
  answers = when_changed _ _ _ _ (λ t st.
      let a = c.in_ok-first.first in
      let b = c.in_ok-first.second in
      (swap_buckets a b t, swap_done s t c.args.a.now c.args.b.now a b st.lawful (c.in_ok-first.ensures.can t st), c.swap.ensures.stands t st));
  logged = record { can = c.swap.ensures.again; is = c.swap.ensures.back };
}
