use Rattle.crush_edits.proofs.Tails.{none_new, moves_only, next_stays, form_stays, edited_is_own}
use Rattle.crush_edits.proofs.law.put.steps_fit_together.Goals as goal

pub returns : goal.returns
returns c = record { none_new = none_new; only = moves_only; stays = next_stays; form = form_stays; own = edited_is_own }
