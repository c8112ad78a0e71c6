use Rattle.crush_edits.proofs.Order.{rising, least, none_told}
use Rattle.crush_edits.proofs.law.order.least_refusal_is_told.Goals as goal

pub returns : goal.returns
returns c = record { rise = rising; least = least; none = none_told }
