-- A word that is neither `id` nor `ruleset`.
use Rattle.std.proofs.Common.{rules}
use Rattle.crush_text.specs.Reads.{word_at}
use Rattle.crush_text.proofs.reader.rule.read_rule_id_key.Goals as goal

pub returns-else-is-2 : goal.returns-else-is-2
unfolding word_at
returns-else-is-2 c = search rules
