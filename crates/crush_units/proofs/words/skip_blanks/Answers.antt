-- When a byte is skipped, the words stay the same.
use Rattle.std.proofs.Common.{arith, rules}
use Rattle.crush_units.proofs.Split.{moves_inside, moves_open, moves_blank, skipped}
use Rattle.crush_units.proofs.words.skip_blanks.Goals as goal
use Rattle.crush_units.proofs.words.skip_blanks.Goals.{then-inside, else-inside+then-byte-eq35, else-inside+else-byte-eq35+else-not-is_blank}

pub loop-place-preserved : goal.loop-place-preserved
loop-place-preserved c =
    let so = c.loop-place.invariant.1 in
    elim c.if-inside.branch [
      | then-inside w ↦ (omega arith, moves_inside _ _ c.args.text.now _ _ c.loop-place-test.true so w.if-inside.true w.inside-is)
      | else-inside+then-byte-eq35 w ↦ (omega arith, moves_open _ _ c.args.text.now _ _ c.loop-place-test.true so w.if-inside.false w.if-byte-eq35.true w.inside-is)
      | else-inside+else-byte-eq35+else-not-is_blank w ↦ (omega arith, moves_blank _ _ c.args.text.now _ _ c.loop-place-test.true so w.if-inside.false w.if-byte-eq35.false (search rules) w.inside-is)
    ]

pub returns-after-loop-place-clause-same : goal.returns-after-loop-place-clause-same
returns-after-loop-place-clause-same c = skipped _ c.args.text.now _ _ c.loop-place-test.false c.loop-place.invariant.1
