use Rattle.std.proofs.Common.{◌++◌, ap, drop, ◌∙◌}
use Rattle.std.proofs.lemmas.Result.{on_ok_weaker}
use Rattle.crush_units.specs.Words.{words}
use Rattle.crush_reasons.specs.Flaws.{begins_at, line_of, open_text, two_of}
use Rattle.crush_reasons.specs.Place.{origin_data}
use Rattle.crush_reasons.proofs.Lines.{two_pushed}
use Rattle.crush_reasons.proofs.flaws.push_open.Goals as goal

pub returns : goal.returns
unfolding open_text
returns c =
    let bytes = c.args.bytes.now in
    let head = c.args.head in
    on_ok_weaker c.push_begins_at.result (λ e. two_pushed c.args.text.now.items (two_of (words 0 (drop head bytes)).words) (begins_at (line_of (origin_data c.args.origin) bytes head)) _ _ c.in_ok-push_two.ensures (e ∙ ap (λ n. c.push_two.new.text.items ++ begins_at n) c.line_of-line.ensures)) c.push_begins_at.ensures
