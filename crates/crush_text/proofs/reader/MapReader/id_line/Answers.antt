-- Reading the opening brace and the bucket's id, one word after the other.
use Rattle.std.proofs.Common.{rules, ◌∙◌}
use Rattle.std.proofs.lemmas.Result.{err_from_is_err_and}
use Rattle.crush_builder.specs.Built.{with_id}
use Rattle.crush_text.proofs.LineByLine.{fails_so}
use Rattle.crush_text.proofs.LineEnds.{still, word_fails, word_reads}
use Rattle.crush_text.proofs.Steps.{done_reads}
use Rattle.crush_text.proofs.Refused.{no_line}
use Rattle.crush_text.proofs.reader.MapReader.id_line.Goals as goal

pub returns-in_err-read_key : goal.returns-in_err-read_key
returns-in_err-read_key g c =
    let p = err_from_is_err_and c.from_residual.result c.from_residual.ensures.1 in
    rw (p.1, p.2) (no_line _ _ _ _ _ (λ d h.
    (word_fails d _ _ _ _ (c.in_err-read_key.ensures.gives d tt))))

pub returns-in_err-read_key-2 : goal.returns-in_err-read_key-2
returns-in_err-read_key-2 g c =
    let p = err_from_is_err_and c.from_residual-in_err-read_key-2.result c.from_residual-in_err-read_key-2.ensures.1 in
    rw (p.1, p.2) (no_line _ _ _ _ _ (λ d h.
    (fails_so _ _ _ (word_reads d _ _ _ _ _ (c.in_ok-read_key.ensures.gives d tt)) (word_fails d _ _ _ _ (c.in_err-read_key-2.ensures.gives d tt)))))

pub returns-in_err-id : goal.returns-in_err-id
returns-in_err-id g c =
    let p = err_from_is_err_and c.from_residual-in_err-id.result c.from_residual-in_err-id.ensures.1 in
    rw (p.1, p.2) (no_line _ _ _ _ _ (λ d h.
    (fails_so _ _ _ (word_reads d _ _ _ _ _ (c.in_ok-read_key.ensures.gives d tt) ∙ word_reads d _ _ _ _ _ (c.in_ok-read_key-2.ensures.gives d tt)) (word_fails d _ _ _ _ (c.in_err-id.ensures.reads.gives d h)))))

pub returns : goal.returns
returns g c = record {
  reads = λ d h.
      (with_id d _, c.in-Ok.ensures.ok d (still c.in_ok-id.ensures.kept h), word_reads d _ _ _ _ _ (c.in_ok-read_key.ensures.gives d tt) ∙ word_reads d _ _ _ _ _ (c.in_ok-read_key-2.ensures.gives d tt) ∙ word_reads d _ _ _ _ _ (c.in_ok-id.ensures.reads.gives d h) ∙ done_reads d _ _);
  stands = search rules;
  shorter = search rules;
}
