use Rattle.std.proofs.Common.{length, take, ap, sym, subst, ◌∙◌, arith, rules}
use Rattle.std.proofs.lemmas.List.{take_all}
use Rattle.std.proofs.lemmas.Result.{err_from_is_err_and}
use Rattle.crush_map.specs.MapData.{MapStands}
use Rattle.crush_history.specs.Script.{scripts_data}
use Rattle.crush_history.specs.History.{table_after, turns}
use Rattle.crush_history.proofs.InTurn.{script_run, table_run, no_script, no_script_table}
use Rattle.crush_history.proofs.EntryLines.{none_yet}
use Rattle.crush_run.proofs.Lists.{dropped}
use Rattle.crush_run.proofs.in_turn.run_in_turn.Goals as goal

pub loop-script-init : goal.loop-script-init
loop-script-init g c =
    let ok = c.args.scripts.ok in
    record {
      table = c.into_book-gauge.ensures.table;
      rest = search rules;
      left = search rules;
      operators = none_yet (length c.args.scripts.items) _ c.into_book-gauge.ensures.history;
      entries = λ s t stands. (
        c.into_book-gauge.ensures.history ∙ no_script s t,
        subst (MapStands c.into_book-gauge.result.1.map s) (no_script_table s t) (c.into_book-gauge.ensures.stands s t (subst (λ m. MapStands m s t) (sym c.in-Ok.ensures.opening) stands)),
      );
    }

pub loop-script-preserved : goal.loop-script-preserved
loop-script-preserved g c =
    let i = c.loop-script.operator in
    let scripts = c.args.scripts.items in
    let x = c.in-Some.script in
    let steps = c.in-Some.ensures.steps in
    let one = steps.1 in
    let left = c.loop-script.invariant.left in
    let ok = c.args.scripts.ok in
    let at = dropped scripts _ _ x x i c.loop-script.invariant.rest steps.0 (omega arith) in
    record {
      table = c.in_ok-run_script.ensures.table ∙ c.loop-script.invariant.table;
      rest = at.0;
      left = omega arith;
      operators = c.in_ok-run_script.ensures.operators (length scripts) (omega arith) c.loop-script.invariant.operators;
      entries = λ s t stands.
          let so_far = c.loop-script.invariant.entries s t stands in
          let u = table_after s t (turns s t (scripts_data (take i scripts))) in
          let ran = c.in_ok-run_script.ensures.entries s u so_far.1 in
          let now = c.loop-script.book.history in (
            script_run s t scripts i x now c.run_script.new.book.history (omega arith) at.1 so_far.0 ran.0,
            subst (MapStands c.run_script.new.book.map s) (table_run s t scripts i x now (omega arith) at.1 so_far.0) ran.1,
          );
    }

pub loop-script-preserved-in_ok-run_script : goal.loop-script-preserved-in_ok-run_script
loop-script-preserved-in_ok-run_script g c =
    let i = c.loop-script.operator in
    let scripts = c.args.scripts.items in
    let x = c.in-Some.script in
    let steps = c.in-Some.ensures.steps in
    let one = steps.1 in
    let left = c.loop-script.invariant.left in
    let ok = c.args.scripts.ok in
    let at = dropped scripts _ _ x x i c.loop-script.invariant.rest steps.0 (omega arith) in
    record {
      table = c.in_ok-run_script.ensures.table ∙ c.loop-script.invariant.table;
      rest = at.0;
      left = omega arith;
      operators = c.in_ok-run_script.ensures.operators (length scripts) (omega arith) c.loop-script.invariant.operators;
      entries = λ s t stands.
          let so_far = c.loop-script.invariant.entries s t stands in
          let u = table_after s t (turns s t (scripts_data (take i scripts))) in
          let ran = c.in_ok-run_script.ensures.entries s u so_far.1 in
          let now = c.loop-script.book.history in (
            script_run s t scripts i x now c.run_script.new.book.history (omega arith) at.1 so_far.0 ran.0,
            subst (MapStands c.run_script.new.book.map s) (table_run s t scripts i x now (omega arith) at.1 so_far.0) ran.1,
          );
    }

pub returns : goal.returns
returns g c =
    let left = c.loop-script.invariant.left in
    let none = c.in-None.ensures.steps.0 in
    let all = take_all c.loop-script.operator c.args.scripts.items (omega arith) in
    record {
      operators = rw c.into_closed.ensures.history c.loop-script.invariant.operators;
      turns = λ s t stands.
          let told = c.loop-script.invariant.entries s t stands in (
            c.into_closed.ensures.history ∙ told.0 ∙ ap (λ xs. turns s t (scripts_data xs)) all,
            rw c.into_closed.ensures.map (subst (λ xs. MapStands c.loop-script.book.map s (table_after s t (turns s t (scripts_data xs)))) all told.1),
          );
      few = c.into_closed.ensures.few;
      fault = tt;
    }

pub returns-in_err-run_script-clause-fault : goal.returns-in_err-run_script-clause-fault
returns-in_err-run_script-clause-fault g c =
    let p = err_from_is_err_and c.from_residual.result c.from_residual.ensures.1 in
    rw (p.1, p.2) c.in_err-run_script.ensures.fault
