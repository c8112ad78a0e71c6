-- The lines of a bucket's items, one after the other, up to the closing brace.
use Rattle.std.proofs.Common.{rules, false, arith, subst, refl, Option}
use Rattle.std.proofs.lemmas.Result.{err_from_is_err_and}
use Rattle.crush_text.specs.Form.{filling, at, passing}
use Rattle.crush_text.specs.Flow.{between}
use Rattle.crush_text.specs.Grammar.{line_forms}
use Rattle.crush_text.specs.Reads.{LeadsOn}
use Rattle.crush_text.specs.ReadsLines.{behind_item, ending, TakesLinesOf}
use Rattle.crush_text.proofs.Reached.{line_leads, next_leads, leads_then, fails_then, fails_line}
use Rattle.crush_text.proofs.Refused.{no_lines}
use Rattle.crush_text.specs.declared.expected.Optional.{Optional}
use Rattle.crush_text.proofs.FirstWords.{none_there}
use Rattle.crush_text.proofs.reader.MapReader.items.Goals as goal

pub returns-in_err-next : goal.returns-in_err-next
returns-in_err-next g c =
    let p = err_from_is_err_and c.from_residual.result c.from_residual.ensures.1 in
    rw (p.1, p.2) (no_lines _ _ _ _ _ (λ d h.
    let s = c.items.invariant.reads d h in
    (fails_then _ _ _ _ _ (leads_then _ _ _ _ _ _ s.2 (next_leads (filling c.items.any) c.items.left s.0 c.items.self.text refl)) (fails_line _ s.0 (line_forms s.0 c.items.left (filling c.items.any)) _ (c.in_err-next.ensures.reads s.0 s.1)))))

pub returns : goal.returns
returns g c = record {
  reads = λ d h.
      let s = c.items.invariant.reads d h in
      let k = c.in_ok-next.ensures.reads s.0 s.1 in
      let line = leads_then _ _ _ _ _ _ (leads_then _ _ _ _ _ _ s.2 (next_leads (filling c.items.any) c.items.left s.0 c.items.self.text refl)) (line_leads s.0 (line_forms s.0 c.items.left (filling c.items.any)) _ _ _ k.2) in
      (k.0, k.1, subst (λ (b : Option Optional). LeadsOn (between (passing c.args.or (at (filling false) d))) c.args.self.now.text (between (ending (behind_item b) k.0)) c.item_or_end.new.self.text) (none_there _ c.in_default.not-Some) line);
  stands = subst (λ (b : Option Optional). TakesLinesOf (behind_item b).0 c.item_or_end.new.self.builder) (none_there _ c.in_default.not-Some) c.in_ok-next.ensures.stands;
  shorter = search rules;
}

pub items-preserved : goal.items-preserved
items-preserved g c = record {
  part = subst (λ (b : Option Optional). TakesLinesOf (behind_item b).0 c.item_or_end.new.self.builder) c.in-Some.is c.in_ok-next.ensures.stands;
  shorter = omega (arith, c.items.invariant.shorter, c.in_ok-next.ensures.shorter);
  reads = λ d h.
      let s = c.items.invariant.reads d h in
      let k = c.in_ok-next.ensures.reads s.0 s.1 in
      let line = leads_then _ _ _ _ _ _ (leads_then _ _ _ _ _ _ s.2 (next_leads (filling c.items.any) c.items.left s.0 c.items.self.text refl)) (line_leads s.0 (line_forms s.0 c.items.left (filling c.items.any)) _ _ _ k.2) in
      (k.0, k.1, subst (λ (b : Option Optional). LeadsOn (between (passing c.args.or (at (filling false) d))) c.args.self.now.text (between (ending (behind_item b) k.0)) c.item_or_end.new.self.text) c.in-Some.is line);
}
