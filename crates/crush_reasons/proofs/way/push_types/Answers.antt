use Rattle.std.proofs.Common.{◌++◌, codes}
use Rattle.std.proofs.lemmas.Result.{on_ok_weaker}
use Rattle.crush_reasons.proofs.Lines.{three_pushed, two_pushed}
use Rattle.crush_reasons.proofs.way.push_types.Goals as goal

pub returns : goal.returns
returns c =
    let old = c.args.text.now.items in
    let own = c.args.end.now ++ codes " is of type " ++ c.args.own.now in
    let front = three_pushed old c.args.end.now (codes " is of type ") c.args.own.now _ _ _ c.in_ok-extend_from_slice.ensures.items c.in_ok-extend_from_slice-2.ensures.items c.in_ok-extend_from_slice-3.ensures.items in
    let more = two_pushed old own (codes ", not ") _ _ front c.in_ok-extend_from_slice-4.ensures.items in
    on_ok_weaker c.push_bytes.result (λ e. two_pushed old (own ++ codes ", not ") c.args.wanted.now _ _ more e) c.push_bytes.ensures
