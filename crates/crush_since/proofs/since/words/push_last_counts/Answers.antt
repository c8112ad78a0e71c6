use Rattle.crush_since.specs.Tallies.{last_counts}
use Rattle.crush_since.proofs.PartLaws.{three_sections}
use Rattle.crush_since.proofs.since.words.push_last_counts.Goals as goal

pub returns : goal.returns
unfolding last_counts
returns c = three_sections _ _ _ _ _ _ _ c.in_ok-push_count.ensures c.in_ok-push_count-2.ensures c.in_ok-push_count-3.ensures
