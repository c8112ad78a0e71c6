use Rattle.std.proofs.Common.{List, ap, drop, length, set, ◌∙◌}
use Rattle.std.proofs.lemmas.List.{map-set}
use Rattle.crush_edits.specs.declared.edit.Edit.{Edit}
use Rattle.crush_reasons.specs.EditsLeft.{lines_left}
use Rattle.crush_reasons.specs.Replay.{edits_of}
use Rattle.crush_reasons.proofs.edits_left.EditsLeft.pass.Goals as goal

pub returns-then-entry-len : goal.returns-then-entry-len
returns-then-entry-len c =
    let operator = c.args.entry.now.operator in
    map-set (λ l. l.now) c.args.self.now.lines.items operator c.from_line.result
    ∙ ap (set (lines_left c.args.self.now) operator)
    (c.from_line.ensures ∙ ap (λ (es : List Edit). drop (length es) c.of-left.result.now) c.edits_of.ensures.value ∙ ap (drop (length (edits_of c.args.entry.now.call))) c.of-left.ensures)
