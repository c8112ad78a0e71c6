use Rattle.std.proofs.Common.{rules}
use Rattle.crush_history.specs.declared.call.Call.TheVariants.{One, Batch}
use Rattle.crush_history.proofs.Made.{made_behind}
use Rattle.crush_history.proofs.making.make_call.Goals as goal

pub returns-in-One-clause-made : goal.returns-in-One-clause-made
returns-in-One-clause-made g c = rw c.in-One.is (made_behind c.args.count c.args.map.now c.make_edit.new.map (One c.in-One.edit) c.make_edit.result c.make_edit.ensures.made)

pub returns-in-Batch-clause-made : goal.returns-in-Batch-clause-made
returns-in-Batch-clause-made g c =
    rw (c.in-Batch.is, ← c.as_slice.ensures.value) (made_behind c.args.count c.args.map.now c.make_batch.new.map (Batch c.as_slice.result.now) c.make_batch.result c.make_batch.ensures.made)

pub returns-in-Guarded-clause-made : goal.returns-in-Guarded-clause-made
returns-in-Guarded-clause-made g c = search rules
