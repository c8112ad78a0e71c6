use Rattle.std.proofs.Common.{◌+◌, arith}
use Rattle.crush_since.specs.Collected.{old_weight, new_weight, old_devices, new_devices, takes}
use Rattle.crush_since.specs.CollectedSeen.{item_data}
use Rattle.crush_since.proofs.SortedItems.{uses_together, low_together}
use Rattle.crush_since.proofs.since.collected.ClassUse.with.Goals as goal

pub overflow_add-result : goal.overflow_add-result
overflow_add-result c = omega (arith, c.requires old_weight, c.of-more.ensures.low old_weight)

pub overflow_add-result-2 : goal.overflow_add-result-2
overflow_add-result-2 c = omega (arith, c.requires new_weight, c.of-more.ensures.low new_weight)

pub overflow_add-result-3 : goal.overflow_add-result-3
overflow_add-result-3 c = omega (arith, c.requires old_devices, c.of-more.ensures.low old_devices)

pub overflow_add-result-4 : goal.overflow_add-result-4
overflow_add-result-4 c = omega (arith, c.requires new_devices, c.of-more.ensures.low new_devices)

pub overflow_add-result-5 : goal.overflow_add-result-5
overflow_add-result-5 c = omega (arith, c.requires takes, c.of-more.ensures.low takes)

pub returns-clause-data : goal.returns-clause-data
returns-clause-data c = uses_together c.of-more.result c.args.self (item_data c.args.item.now) c.of-more.ensures.data

pub returns-clause-low : goal.returns-clause-low
returns-clause-low c = low_together c.of-more.result c.args.self c.of-more.ensures.low
