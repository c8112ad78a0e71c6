-- The fault of the first word, of the end, or of a bad byte is the fault of the text.
use Rattle.crush_text.proofs.Unbegun.{text_unopened, text_bad}
use Rattle.crush_text.proofs.reader.fault_without_memory.fault_without_memory.Goals as goal

pub returns-in-Word : goal.returns-in-Word
returns-in-Word c = text_unopened _ _ c.in-Word.place c.in-Word.text.now _ c.in-Word.ensures.nexts c.unopened.ensures

pub returns-in-Bad : goal.returns-in-Bad
returns-in-Bad c = text_bad _ c.in-Bad.place c.in-Bad.ensures.nexts.0
