-- Reading the class ids, one after the other, and then the algorithm.
use Rattle.std.proofs.Common.{rules, arith, subst, refl, Option}
use Rattle.std.proofs.lemmas.Result.{err_from_is_err_and}
use Rattle.crush_text.specs.Form.{numbered, at}
use Rattle.crush_text.specs.Flow.{between}
use Rattle.crush_text.specs.Grammar.{line_forms}
use Rattle.crush_text.specs.Reads.{LeadsOn}
use Rattle.crush_text.specs.ReadsLines.{behind_id, ending, TakesLinesOf}
use Rattle.crush_text.proofs.Reached.{line_leads, next_leads, leads_then, fails_then, fails_line}
use Rattle.crush_text.proofs.Refused.{no_lines}
use Rattle.crush_text.specs.declared.expected.Optional.TheVariants.{Nothing}
use Rattle.crush_text.specs.declared.expected.Optional.{Optional}
use Rattle.crush_text.proofs.FirstWords.{none_there}
use Rattle.crush_text.proofs.reader.MapReader.class_ids.Goals as goal

pub returns-in_err-or : goal.returns-in_err-or
returns-in_err-or g c =
    let p = err_from_is_err_and c.from_residual.result c.from_residual.ensures.1 in
    rw (p.1, p.2) (no_lines _ _ _ _ _ (λ d h.
    let s = c.ids.invariant.reads d h in
    (fails_then _ _ _ _ _ (leads_then _ _ _ _ _ _ s.2 (next_leads numbered Nothing s.0 c.ids.self.text refl)) (fails_line _ s.0 (line_forms s.0 Nothing numbered) _ (c.in_err-or.ensures.reads s.0 s.1)))))

pub returns-in-Some : goal.returns-in-Some
returns-in-Some g c = record {
  reads = λ d h.
      let s = c.ids.invariant.reads d h in
      let k = c.in_ok-or.ensures.reads s.0 s.1 in
      let line = leads_then _ _ _ _ _ _ (leads_then _ _ _ _ _ _ s.2 (next_leads numbered Nothing s.0 c.ids.self.text refl)) (line_leads s.0 (line_forms s.0 Nothing numbered) _ _ _ k.2) in
      (k.0, k.1, subst (λ (b : Option Optional). LeadsOn (between (at numbered d)) c.args.self.now.text (between (ending (behind_id b) k.0)) c.class_id_or_alg.new.self.text) c.in-Some.is line);
  stands = subst (λ (b : Option Optional). TakesLinesOf (behind_id b).0 c.class_id_or_alg.new.self.builder) c.in-Some.is c.in_ok-or.ensures.stands;
  shorter = search rules;
}

pub ids-preserved : goal.ids-preserved
ids-preserved g c = record {
  part = subst (λ (b : Option Optional). TakesLinesOf (behind_id b).0 c.class_id_or_alg.new.self.builder) (none_there _ c.in_default.not-Some) c.in_ok-or.ensures.stands;
  shorter = omega (arith, c.ids.invariant.shorter, c.in_ok-or.ensures.shorter);
  reads = λ d h.
      let s = c.ids.invariant.reads d h in
      let k = c.in_ok-or.ensures.reads s.0 s.1 in
      let line = leads_then _ _ _ _ _ _ (leads_then _ _ _ _ _ _ s.2 (next_leads numbered Nothing s.0 c.ids.self.text refl)) (line_leads s.0 (line_forms s.0 Nothing numbered) _ _ _ k.2) in
      (k.0, k.1, subst (λ (b : Option Optional). LeadsOn (between (at numbered d)) c.args.self.now.text (between (ending (behind_id b) k.0)) c.class_id_or_alg.new.self.text) (none_there _ c.in_default.not-Some) line);
}
