use Rattle.std.proofs.Common.{◌+◌, ap, sym, ◌∙◌, arith}
use Rattle.std.specs.Prelude.{drop, Err}
use Rattle.crush_nodes.proofs.Steps.{drop_at}
use Rattle.crush_edits.specs.Batch.{batch_refused, batch_from}
use Rattle.crush_apply.proofs.Batching.{fault_parts, stops_at, goes_on, on_err, kept_back}
use Rattle.crush_apply.proofs.batch.make_all.Goals as goal

pub returns-in-Err-Refused-clause-refused : goal.returns-in-Err-Refused-clause-refused
returns-in-Err-Refused-clause-refused g c = λ index r told t st.
    let k = c.loop-requested.requested-index in
    let es = c.args.edits.now in
    let at = c.loop-requested.invariant.begun t st in
    let left = drop_at es k c.requested-item.result c.loop-requested-test.true c.requested-item.is in
    let no = c.apply_logged.ensures.refused c.in-Err-Refused.refusal (c.in-Err-Refused.is ∙ ap Err c.in-Err-Refused.field-0-is) at.0 at.2 in
    let parts = fault_parts _ index _ r told in
    stops_at c.args.setting.now t at.0 es (drop k es) (drop (k + 1) es) c.loop-requested.dones c.requested-item.result c.in-Err-Refused.refusal at.1 left no
    ∙ (λ i. batch_refused (parts.0 i) ((sym c.in-Err-Refused.refusal-is ∙ parts.1) i))

pub returns-in-Err-Refused-clause-log : goal.returns-in-Err-Refused-clause-log
returns-in-Err-Refused-clause-log g c =
    kept_back _ _ _ _ _ (c.loop-requested.invariant.back c.loop-requested-test.true)
    (on_err c.apply_logged.result _ c.in-Err-Refused.is c.apply_logged.ensures.unchanged)
    (on_err c.apply_logged.result _ c.in-Err-Refused.is c.apply_logged.ensures.log)

pub returns-in-Err-OutOfMemory-clause-log : goal.returns-in-Err-OutOfMemory-clause-log
returns-in-Err-OutOfMemory-clause-log g c =
    kept_back _ _ _ _ _ (c.loop-requested.invariant.back c.loop-requested-test.true)
    (on_err c.apply_logged.result _ c.in-Err-OutOfMemory.is c.apply_logged.ensures.unchanged)
    (on_err c.apply_logged.result _ c.in-Err-OutOfMemory.is c.apply_logged.ensures.log)

pub loop-requested-preserved : goal.loop-requested-preserved
loop-requested-preserved g c =
    let k = c.loop-requested.requested-index in
    let es = c.args.edits.now in
    let so_far = c.loop-requested.invariant.counts in
    let more = c.with_done-dones.ensures in
    let left = drop_at es k c.requested-item.result c.loop-requested-test.true c.requested-item.is in
    record {
      begun = λ t st.
          let at = c.loop-requested.invariant.begun t st in
          let one = c.in-Ok.ensures.done at.0 at.2 in (
            one.0,
            goes_on c.args.setting.now t at.0 one.0 es (drop k es) (drop (k + 1) es) c.loop-requested.dones c.requested-item.result c.in-Ok.done.changed c.in-Ok.done.made at.1 left one.1 ∙ ap (λ d. batch_from c.args.setting.now (drop (k + 1) es) d one.0) (sym more.sum),
            one.2,
          );
      fits = c.apply_logged.ensures.fits;
      counts = record {
        edits = omega (arith, so_far.edits, more.edits);
        changed = omega (arith, so_far.changed, more.changed);
        made = omega (arith, so_far.made, more.made);
      };
      back = λ behind. c.in-Ok.ensures.logged (omega (arith, c.requires.room, c.loop-requested.invariant.len, c.loop-requested.invariant.capacity, behind)) c.args.hierarchy.now (c.loop-requested.invariant.back c.loop-requested-test.true);
      len = omega (arith, c.loop-requested.invariant.len, c.apply_logged.ensures.len);
      capacity = c.apply_logged.ensures.capacity ∙ c.loop-requested.invariant.capacity;
    }
