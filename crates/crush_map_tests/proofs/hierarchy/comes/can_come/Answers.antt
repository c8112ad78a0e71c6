use Rattle.std.proofs.Common.{sym, arith}
use Rattle.crush_model.specs.Forest.{rows_of}
use Rattle.crush_model.proofs.Stands.{stands_for_rows}
use Rattle.crush_map_tests.proofs.Coming.{device_lawful}
use Rattle.crush_map_tests.proofs.hierarchy.comes.can_come.Goals as goal

pub returns-clause-there : goal.returns-clause-there
returns-clause-there c = λ _. sym c.if-not-has_item.ensures

pub returns-clause-fits : goal.returns-clause-fits
returns-clause-fits c = λ _.
    let f = c.args.hierarchy.now in
    let t = rows_of f in
    let st = stands_for_rows f c.recall_invariant.ensures in
    device_lawful t c.recall_invariant.ensures.lawful c.args.id c.args.name.now (omega arith) c.has_name.ensures.name (sym c.if-has_item.ensures) (sym c.if-has_name.ensures.named)
    (omega (arith, c.counts.ensures.devices t st, c.if-counts-ge-MOST_DEVICES.false))
    c.args.bucket c.args.weight (sym c.if-not-has_item.ensures) (c.is_device_weight.ensures.0 c.if-not-is_device_weight.false) (c.if-not-fits_attach.ensures t st)
