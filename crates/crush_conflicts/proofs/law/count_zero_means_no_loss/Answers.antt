use Rattle.crush_conflicts.proofs.LossLaws.{count_zero_no_loss}
use Rattle.crush_conflicts.proofs.law.count_zero_means_no_loss.Goals as goal

pub returns : goal.returns
returns c = count_zero_no_loss
