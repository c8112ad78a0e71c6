use Rattle.std.proofs.Common.{codes}
use Rattle.std.proofs.lemmas.Result.{on_ok_weaker}
use Rattle.std.specs.Prelude.{flat_map}
use Rattle.crush_ceph.specs.Commands.{first_words, more_words}
use Rattle.crush_ceph.proofs.Pushed.{four_pushed}
use Rattle.crush_ceph.proofs.commands.push_joined.Goals as goal

pub returns : goal.returns
returns c =
    on_ok_weaker c.push_feed.result (λ e. four_pushed c.args.text.now.items c.args.head.now (first_words c.args.first.now) (flat_map more_words c.args.more.now) (codes "\n") _ _ _ _
    c.in_ok-extend_from_slice.ensures.items c.in_ok-push_first.ensures c.in_ok-push_all_more.ensures e) c.push_feed.ensures
