use Rattle.crush_edits.proofs.Order.{nothing_told, group_passes, group_refuses}
use Rattle.crush_edits.proofs.law.order.groups_are_asked_in_turn.Goals as goal

pub returns : goal.returns
returns c = record { nothing = nothing_told; passes = group_passes; refuses = group_refuses }
