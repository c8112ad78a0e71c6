use Rattle.std.proofs.Common.{List, ℕ, ◌++◌, codes, ap, ◌∙◌}
use Rattle.std.proofs.lemmas.Result.{on_ok_weaker}
use Rattle.crush_history.specs.Ceph.{assent, ceph_head, ceph_words}
use Rattle.crush_history.proofs.Pushed.{three_pushed}
use Rattle.crush_history.proofs.ceph.push_ceph_line.Goals as goal

pub returns : goal.returns
returns c =
    let edit = c.args.edit.now in
    on_ok_weaker c.push_end.result (λ e. three_pushed c.args.text.now.items (ceph_head edit) (ceph_words edit) (assent edit ++ codes "\n") _ _ _ (c.in_ok-extend_from_slice.ensures.items ∙ ap (λ (l : List ℕ). c.args.text.now.items ++ l) c.ceph_head.ensures) c.in_ok-push_words.ensures e) c.push_end.ensures
