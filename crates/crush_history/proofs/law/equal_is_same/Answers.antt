use Rattle.crush_history.proofs.SameCalls.{same_edits-Decides, same_call-Decides, same_entry-Decides, same_slip-Decides, same_script-Decides}
use Rattle.crush_history.proofs.law.equal_is_same.Goals as goal

pub returns : goal.returns
returns c = record { batches = same_edits-Decides; calls = same_call-Decides; entries = same_entry-Decides; slips = same_slip-Decides; scripts = same_script-Decides }
