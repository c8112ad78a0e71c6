use Rattle.std.proofs.Common.{codes}
use Rattle.std.proofs.lemmas.Result.{on_ok_weaker}
use Rattle.crush_reasons.specs.Shown.{told}
use Rattle.crush_reasons.proofs.Lines.{three_pushed}
use Rattle.crush_reasons.proofs.misfit.push_no_at.Goals as goal

pub returns : goal.returns
returns c =
    on_ok_weaker c.push_bytes.result (λ e. three_pushed c.args.text.now.items (codes "unexpected word ") (told c.args.word.now) (codes ": expected `at N` or the end of the line") _ _ _ c.in_ok-extend_from_slice.ensures.items c.in_ok-push_told.ensures e) c.push_bytes.ensures
