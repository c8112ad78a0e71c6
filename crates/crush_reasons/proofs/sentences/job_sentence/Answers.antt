use Rattle.std.proofs.Common.{rules}
use Rattle.crush_reasons.proofs.sentences.job_sentence.Goals as goal

pub returns-in-TooManyCalls : goal.returns-in-TooManyCalls
returns-in-TooManyCalls c = search rules
