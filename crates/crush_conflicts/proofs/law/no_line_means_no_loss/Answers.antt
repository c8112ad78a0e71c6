use Rattle.crush_conflicts.proofs.LossLaws.{no_line_no_loss}
use Rattle.crush_conflicts.proofs.law.no_line_means_no_loss.Goals as goal

pub returns : goal.returns
returns c = no_line_no_loss
