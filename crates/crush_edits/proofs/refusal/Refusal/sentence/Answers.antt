use Rattle.std.proofs.Common.{rules}
use Rattle.crush_edits.proofs.refusal.Refusal.sentence.Goals as goal

pub returns-in-NoSuchItem : goal.returns-in-NoSuchItem
returns-in-NoSuchItem c = search rules
