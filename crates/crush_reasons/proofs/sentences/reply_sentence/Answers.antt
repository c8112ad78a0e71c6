use Rattle.std.proofs.Common.{rules}
use Rattle.crush_reasons.proofs.sentences.reply_sentence.Goals as goal

pub returns-in-Stale : goal.returns-in-Stale
returns-in-Stale c = search rules
