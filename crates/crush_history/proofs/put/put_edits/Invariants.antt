use Rattle.std.proofs.Common.{take}
use Rattle.std.specs.Io.KnownBytes.{Appends}
use Rattle.crush_history.specs.HistoryText.{edits_text}
use Rattle.crush_history.proofs.put.put_edits.Given as goal

abbrev pub invariant-loop-edit : goal.invariant-loop-edit
invariant-loop-edit g l = Appends (g.W.Write.contents l.fn.out) (g.W.Write.contents l.out) (edits_text (take l.edit-index l.edits))
