use Rattle.std.proofs.Common.{rules, rules}
use Rattle.crush_text.proofs.reader.items.free_item.Goals as goal

pub returns-in-Some-2-clause-gives : goal.returns-in-Some-2-clause-gives
returns-in-Some-2-clause-gives g c = search rules
