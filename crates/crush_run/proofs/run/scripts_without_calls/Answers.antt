use Rattle.std.proofs.Common.{◌∙◌, ap, arith}
use Rattle.std.proofs.lemmas.List.{take_all}
use Rattle.crush_history.specs.HistoryText.{names_of}
use Rattle.crush_history.specs.Script.{scripts_data}
use Rattle.crush_run.proofs.Headings.{headings_push}
use Rattle.crush_run.proofs.run.scripts_without_calls.Goals as goal

pub loop-script-preserved : goal.loop-script-preserved
loop-script-preserved c =
    let i = c.loop-script.script-index in
    let p = c.in_ok-push.ensures in
    record {
      count = let l = p.len in let n = c.loop-script.invariant.count in omega arith;
      names = rw p.items (headings_push c.loop-script.copies.items c.args.scripts.now i _ c.script-item.result c.loop-script-test.true c.script-item.is c.in_ok-name.ensures c.loop-script.invariant.names);
    }

pub returns : goal.returns
returns c = record {
  count = let n = c.loop-script.invariant.count in omega arith;
  names = c.loop-script.invariant.names ∙ ap (λ xs. names_of (scripts_data xs)) (take_all c.loop-script.script-index c.args.scripts.now (omega arith));
}
