use Rattle.crush_since.proofs.PartLaws.{three_sections}
use Rattle.crush_since.proofs.since.rule_lines.push_emptied_line.Goals as goal

pub returns : goal.returns
returns c = three_sections _ _ _ _ _ _ _ c.in_ok-push_takes.ensures c.in_ok-push_taken.ensures c.in_ok-push_weighs_nothing.ensures
