use Rattle.std.proofs.Common.{ap, sym}
use Rattle.crush_reasons.specs.Written.{bucket_sum}
use Rattle.crush_reasons.proofs.Naming.{no_name}
use Rattle.crush_reasons.proofs.written.bucket_sum.Goals as goal

-- if bytes aren't UTF-8, then no item has them as its name
pub returns-in_default : goal.returns-in_default
returns-in_default c = λ t stands. ap (bucket_sum t) (sym (no_name t c.args.name.now stands.stands.lawful.rows c.in_default.ensures.cases.0))
