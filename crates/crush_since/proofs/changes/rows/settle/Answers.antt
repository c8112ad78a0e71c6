use Rattle.std.proofs.Common.{arith}
use Rattle.crush_since.proofs.ToldLaws.{settled}
use Rattle.crush_since.proofs.changes.rows.settle.Goals as goal

pub returns-then-saturating_sub-eq1 : goal.returns-then-saturating_sub-eq1
returns-then-saturating_sub-eq1 c = λ see before below row long are.
    settled see c.args.rows.now.items c.truncate.new.self.items c.args.at c.args.is_listed before below row c.if-not-is_listed.true
    (omega (arith, c.saturating_sub.ensures, c.len.ensures, c.if-saturating_sub-eq1.true)) c.truncate.ensures.items long are
