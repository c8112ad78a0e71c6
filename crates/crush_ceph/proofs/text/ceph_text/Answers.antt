use Rattle.std.proofs.Common.{List, ap, ◌∙◌}
use Rattle.std.proofs.lemmas.Result.{IfOk-weaker}
use Rattle.crush_ceph.specs.CephText.{ceph_text, commands_text}
use Rattle.crush_ceph.specs.Commands.{cut}
use Rattle.crush_ceph.specs.declared.steps.CephStep.{CephStep}
use Rattle.crush_ceph.proofs.text.ceph_text.Goals as goal

pub returns : goal.returns
unfolding ceph_text
returns c =
    IfOk-weaker c.commands_text.result _ _ (λ text is. λ t st. is ∙ ap (λ (steps : List CephStep). commands_text (cut steps)) (c.as_slice.ensures.value ∙ c.in_ok-steps.ensures t st)) c.commands_text.ensures
