use Rattle.std.proofs.Common.{◌++◌, codes}
use Rattle.std.proofs.lemmas.Result.{on_ok_weaker}
use Rattle.crush_reasons.proofs.Lines.{three_pushed, two_pushed}
use Rattle.crush_reasons.proofs.way.push_below.Goals as goal

pub returns : goal.returns
returns c =
    let end = c.args.end.now in
    let front = three_pushed c.args.text.now.items end (codes " is below ") c.args.name.now _ _ _ c.in_ok-extend_from_slice.ensures.items c.in_ok-extend_from_slice-2.ensures.items c.in_ok-extend_from_slice-3.ensures.items in
    on_ok_weaker c.push_bytes.result (λ e. two_pushed c.args.text.now.items (end ++ codes " is below " ++ c.args.name.now) (codes ": a bucket can't be moved below itself") _ _ front e) c.push_bytes.ensures
