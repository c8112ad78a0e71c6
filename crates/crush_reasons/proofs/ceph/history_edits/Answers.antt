use Rattle.std.proofs.Common.{◌++◌, ap, sym, ◌∙◌}
use Rattle.std.proofs.lemmas.List.{take_all}
use Rattle.crush_reasons.specs.Replay.{history_edits}
use Rattle.crush_reasons.proofs.Replays.{edits-take}
use Rattle.crush_reasons.proofs.ceph.history_edits.Goals as goal

pub loop-entry-preserved : goal.loop-entry-preserved
loop-entry-preserved c =
    c.in_ok-push_copies.ensures
    ∙ (λ k. c.loop-entry.invariant k ++ c.changing_edits.ensures.value k)
    ∙ sym (edits-take c.args.entries.now c.loop-entry.entry-index c.entry-item.result c.loop-entry-test.true c.entry-item.is)

pub returns : goal.returns
returns c = c.loop-entry.invariant ∙ ap history_edits (take_all c.loop-entry.entry-index c.args.entries.now c.loop-entry-test.false)
