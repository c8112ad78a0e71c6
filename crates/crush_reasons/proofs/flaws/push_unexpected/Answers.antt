use Rattle.std.proofs.Common.{codes}
use Rattle.std.proofs.lemmas.Result.{on_ok_weaker}
use Rattle.crush_reasons.specs.Flaws.{expected_text, inside}
use Rattle.crush_reasons.specs.Place.{origin_data}
use Rattle.crush_reasons.proofs.Lines.{three_pushed}
use Rattle.crush_reasons.proofs.flaws.push_unexpected.Goals as goal

pub returns : goal.returns
returns c = on_ok_weaker c.push_inside.result (λ e. three_pushed c.args.text.now.items (codes "unexpected word: expected ") (expected_text c.args.expected) (inside (origin_data c.args.origin) c.args.bytes.now c.args.around) _ _ _ c.in_ok-extend_from_slice.ensures.items c.in_ok-push_expected.ensures e) c.push_inside.ensures
