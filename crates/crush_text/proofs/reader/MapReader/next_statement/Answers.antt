-- Which kind of statement the first word begins, and the result of the statement.
use Rattle.std.proofs.Common.{rules, inr}
use Rattle.std.proofs.lemmas.Result.{err_from_is_err_and}
use Rattle.crush_text.proofs.Reached.{leads_then, fails_then}
use Rattle.crush_text.proofs.FirstWords.{idle_behind, opening_leads, opening_err, opening_end, opening_bad}
use Rattle.crush_text.proofs.Refused.{no_next}
use Rattle.crush_text.proofs.reader.MapReader.next_statement.Goals as goal

pub returns-in_err-opening-in-Word : goal.returns-in_err-opening-in-Word
returns-in_err-opening-in-Word g c =
    let p = err_from_is_err_and c.from_residual.result c.from_residual.ensures.1 in
    rw (p.1, p.2) (no_next _ _ _ _ (λ d h.
    (inr (opening_err d c.args.before c.args.self.now.text c.next.new.self c.in-Word.place c.in-Word.text.now _ c.in-Word.ensures.nexts (c.in_err-opening-in-Word.ensures.opens d h)))))

pub returns-in_err-next-in-Word : goal.returns-in_err-next-in-Word
returns-in_err-next-in-Word g c =
    let p = err_from_is_err_and c.from_residual-in_err-next-in-Word.result c.from_residual-in_err-next-in-Word.ensures.1 in
    rw (p.1, p.2) (no_next _ _ _ _ (λ d h.
    (fails_then _ _ _ _ _ (opening_leads d c.args.before c.args.self.now.text c.next.new.self c.in-Word.place c.in-Word.text.now c.in_ok-opening-in-Word.opening c.in-Word.ensures.nexts (c.in_ok-opening-in-Word.ensures.opens d h)) (c.in_err-next-in-Word.ensures.reads d h))))

pub returns-in_ok-next-in-Word : goal.returns-in_ok-next-in-Word
returns-in_ok-next-in-Word g c = record {
  idle = idle_behind _ _ c.in_ok-next-in-Word.ensures.stands;
  reads = λ d h.
      let k = c.in_ok-next-in-Word.ensures.reads d h in
      (k.0, k.1, leads_then _ _ _ _ _ _ (opening_leads d c.args.before c.args.self.now.text c.next.new.self c.in-Word.place c.in-Word.text.now c.in_ok-opening-in-Word.opening c.in-Word.ensures.nexts (c.in_ok-opening-in-Word.ensures.opens d h)) k.2);
  shorter = search rules;
}

pub returns-in-End : goal.returns-in-End
returns-in-End g c = record {
  idle = search rules;
  reads = λ d h.
      (d, h, opening_end d c.args.before c.args.self.now.text c.in-End.place c.in-End.ensures.nexts.0);
  shorter = search rules;
}

pub returns-in-Bad : goal.returns-in-Bad
returns-in-Bad g c =
    no_next _ _ _ _ (λ d h.
    inr (opening_bad d c.args.before c.args.self.now.text c.in-Bad.place c.in-Bad.ensures.nexts.0))
