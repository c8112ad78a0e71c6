-- Reading the statements, one after the other.
use Rattle.std.proofs.Common.{◌∙◌, subst, Option, IfSome, length, ◌<◌}
use Rattle.std.specs.Prelude.{Ok}
use Rattle.std.proofs.lemmas.Result.{err_from_is_err_and}
use Rattle.crush_text.specs.ReadsLines.{ending}
use Rattle.crush_text.specs.Flow.{between}
use Rattle.crush_text.specs.ReadsStatements.{NextGoes, behind}
use Rattle.crush_text.proofs.Reached.{leads_then, fails_then}
use Rattle.crush_text.proofs.FirstWords.{none_there}
use Rattle.crush_text.proofs.Refused.{no_end}
use Rattle.crush_text.specs.declared.reader.statement.Before.{Before}
use Rattle.crush_text.proofs.reader.MapReader.statements.Goals as goal

pub statements-preserved : goal.statements-preserved
statements-preserved g c = record {
  idle = c.in_ok-more.ensures.idle;
  reads = λ d h.
      let s = c.statements.invariant.reads d h in
      let k = subst (λ (o : Option Before). NextGoes (Ok o) c.next_statement.new.self.builder c.next_statement.new.self.text (between (ending (behind c.statements.before) s.0)) c.statements.self.text) c.in-Some.is (c.in_ok-more.ensures.reads s.0 s.1) in
      (k.0, k.1, leads_then _ _ _ _ _ _ s.2 k.2);
}

pub returns : goal.returns
returns g c = record {
  idle = c.in_ok-more.ensures.idle;
  reads = λ d h.
      let s = c.statements.invariant.reads d h in
      let k = subst (λ (o : Option Before). NextGoes (Ok o) c.next_statement.new.self.builder c.next_statement.new.self.text (between (ending (behind c.statements.before) s.0)) c.statements.self.text) (none_there _ c.in_default.not-Some) (c.in_ok-more.ensures.reads s.0 s.1) in
      (k.0, k.1, s.2.same ∙ k.2);
}

pub returns-in_err-more : goal.returns-in_err-more
returns-in_err-more g c =
    let p = err_from_is_err_and c.from_residual.result c.from_residual.ensures.1 in
    rw (p.1, p.2) (no_end _ _ _ (λ d h.
    let s = c.statements.invariant.reads d h in
    (fails_then _ _ _ _ _ s.2 (c.in_err-more.ensures.reads s.0 s.1))))

pub statements-smaller : goal.statements-smaller
statements-smaller g c = subst (λ (o : Option Before). IfSome o (λ _. length c.next_statement.new.self.text.words < length c.statements.self.text.words)) c.in-Some.is c.in_ok-more.ensures.shorter
