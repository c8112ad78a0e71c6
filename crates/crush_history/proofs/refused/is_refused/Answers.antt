use Rattle.std.proofs.Common.{rules}
use Rattle.crush_history.proofs.refused.is_refused.Goals as goal

pub returns-in-BatchRefused : goal.returns-in-BatchRefused
returns-in-BatchRefused c = search rules

pub returns-in-Stale : goal.returns-in-Stale
returns-in-Stale c = search rules
