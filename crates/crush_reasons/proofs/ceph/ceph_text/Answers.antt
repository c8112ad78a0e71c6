use Rattle.std.proofs.Common.{List, ap, ◌∙◌}
use Rattle.std.proofs.lemmas.Result.{IfOk-weaker}
use Rattle.crush_edits.specs.declared.edit.Edit.{Edit}
use Rattle.crush_ceph.specs.CephText.{ceph_text as ceph_text_of_edits}
use Rattle.crush_reasons.specs.Ceph.{ceph_text}
use Rattle.crush_reasons.proofs.ceph.ceph_text.Goals as goal

pub returns : goal.returns
unfolding ceph_text
returns c =
    IfOk-weaker c.ceph_text.result _ _ (λ text is. λ t st.
    is t st ∙ ap (λ (es : List Edit). ceph_text_of_edits c.args.opening.setting t es) (c.as_slice.ensures.value ∙ c.in_ok-edits.ensures)) c.ceph_text.ensures
