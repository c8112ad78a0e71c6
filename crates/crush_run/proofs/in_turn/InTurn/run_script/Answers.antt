use Rattle.std.proofs.Common.{◌≡◌, ◌++◌, take, subst, ◌∙◌, refl, arith, rules}
use Rattle.std.proofs.lemmas.List.{take_all}
use Rattle.crush_map.specs.MapData.{MapStands}
use Rattle.crush_history.specs.History.{behind, counted_after, turn}
use Rattle.crush_history.proofs.InTurn.{call_made, table_made, no_call, no_table}
use Rattle.crush_history.proofs.EntryLines.{one_more}
use Rattle.crush_run.proofs.Lists.{dropped}
use Rattle.crush_run.proofs.in_turn.InTurn.run_script.Goals as goal

pub loop-call-init : goal.loop-call-init
loop-call-init g c =
    let start = c.args.book.now.history in
    let ok = c.args.calls.ok in
    record {
      table = refl;
      rest = search rules;
      left = search rules;
      operators = λ n among before. before;
      entries = λ s t stands. (no_call s (behind t start) c.args.operator start, subst (MapStands c.args.book.now.map s) (no_table s (behind t start) c.args.operator) stands);
    }

pub loop-call-preserved : goal.loop-call-preserved
loop-call-preserved g c =
    let n = c.loop-call.number in
    let calls = c.args.calls.items in
    let x = c.in-Some.call in
    let steps = c.in-Some.ensures.steps in
    let one = steps.1 in
    let left = c.loop-call.invariant.left in
    let ok = c.args.calls.ok in
    let at = dropped calls _ _ x x n c.loop-call.invariant.rest steps.0 (omega arith) in
    record {
      table = c.commit_copied-outcome.ensures.table ∙ c.loop-call.invariant.table;
      rest = at.0;
      left = omega arith;
      operators = λ m among before. one_more m c.loop-call.book.history c.commit_copied-outcome.new.self.history _ c.in-Ok.ensures.history (c.loop-call.invariant.operators m among before) among;
      entries = λ s t stands.
          let so_far = c.loop-call.invariant.entries s t stands in
          let start = c.args.book.now.history in
          let q = behind t start in
          let made = c.in-Ok.ensures.made s (counted_after s q (turn s q c.args.operator (take n calls))).table so_far.1 in (
            call_made s t c.args.operator calls n x start c.loop-call.book.history (omega arith) at.1 so_far.0 _ c.commit_copied-outcome.new.self.history made.0 c.in-Ok.ensures.history,
            subst (MapStands c.commit_copied-outcome.new.self.map s) (table_made s t c.args.operator calls n x start c.loop-call.book.history (omega arith) at.1 so_far.0) made.1,
          );
    }

pub returns : goal.returns
returns g c =
    let left = c.loop-call.invariant.left in
    let none = c.in-None.ensures.steps.0 in
    record {
      table = c.loop-call.invariant.table;
      operators = c.loop-call.invariant.operators;
      entries = λ s t stands.
          let all = take_all c.loop-call.number c.args.calls.items (omega arith) in
          let start = c.args.book.now.history in
          let q = behind t start in
          subst (λ cs. (c.loop-call.book.history ≡ start ++ turn s q c.args.operator cs) × MapStands c.loop-call.book.map s (counted_after s q (turn s q c.args.operator cs)).table) all (c.loop-call.invariant.entries s t stands);
      fault = tt;
    }
