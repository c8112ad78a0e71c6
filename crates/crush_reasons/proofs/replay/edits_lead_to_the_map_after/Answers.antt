use Rattle.crush_reasons.proofs.LawReplay.{leads_to_table_after}
use Rattle.crush_reasons.proofs.replay.edits_lead_to_the_map_after.Goals as goal

pub returns : goal.returns
returns c = leads_to_table_after
