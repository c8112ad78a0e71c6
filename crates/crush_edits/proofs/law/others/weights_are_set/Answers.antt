use Rattle.crush_edits.proofs.Changes.{same_weights}
use Rattle.crush_edits.proofs.Others.{weight_changes, weights_fit}
use Rattle.crush_edits.proofs.law.others.weights_are_set.Goals as goal

pub returns : goal.returns
returns c = record { many = same_weights; one = weight_changes; fits = weights_fit }
