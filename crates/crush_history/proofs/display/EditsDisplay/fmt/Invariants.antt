use Rattle.std.proofs.Common.{take}
use Rattle.std.specs.Fmt.{HasWritten, IsPlainFormatter}
use Rattle.crush_history.specs.HistoryText.{edits_text}
use Rattle.crush_history.proofs.display.EditsDisplay.fmt.Given as goal

abbrev pub invariant-loop-edit : goal.invariant-loop-edit
invariant-loop-edit g l =
    IsPlainFormatter l.initial.f → HasWritten g.W.Write.write_str_gives l.initial.f (edits_text (take l.edit-index l.edits)) l.f
