-- Reading the algorithm's line, one word after the other, with a hash or without.
use Rattle.std.proofs.Common.{inl, rules, Bool, sym, ap, ◌∙◌}
use Rattle.std.specs.Prelude.{if◌then◌else◌}
use Rattle.crush_units.specs.Words.{past}
use Rattle.std.proofs.lemmas.Result.{err_from_is_err_and}
use Rattle.crush_builder.specs.Built.{with_alg}
use Rattle.crush_text.proofs.LineByLine.{fails_so}
use Rattle.crush_text.proofs.LineEnds.{word_fails, word_reads}
use Rattle.crush_text.proofs.Reached.{part_taken, out_of_memory_here, reaches_word}
use Rattle.crush_text.proofs.Steps.{done_reads}
use Rattle.crush_text.proofs.Refused.{no_line}
use Rattle.crush_text.proofs.reader.MapReader.alg.Goals as goal

pub returns-in_err-alg : goal.returns-in_err-alg
returns-in_err-alg g c =
    let p = err_from_is_err_and c.from_residual.result c.from_residual.ensures.1 in
    rw (p.1, p.2) (no_line _ _ _ _ _ (λ d h. word_fails d _ _ _ _ (c.in_err-alg.ensures.alg.gives d tt)))

pub returns-in_err-read_number : goal.returns-in_err-read_number
returns-in_err-read_number g c =
    let p = err_from_is_err_and c.from_residual-in_err-read_number.result c.from_residual-in_err-read_number.ensures.1 in
    rw (p.1, p.2) (no_line _ _ _ _ _ (λ d h. fails_so _ _ _ (word_reads d _ _ _ _ _ (c.in_ok-alg.ensures.alg.gives d tt) ∙ part_taken d _ _ _ _ _ _ (sym c.if-take_key.true ∙ c.take_key.ensures.answer) (c.take_key.ensures.rest ∙ ap (λ (b : Bool). if b then past c.read_algorithm.new.reader else c.read_algorithm.new.reader) c.if-take_key.true)) (word_fails d _ _ _ _ (c.in_err-read_number.ensures.gives d tt))))

pub returns-in-Ok : goal.returns-in-Ok
returns-in-Ok g c = record {
  reads = λ d h.
      (with_alg d _, c.in-Ok.ensures.ok d h, word_reads d _ _ _ _ _ (c.in_ok-alg.ensures.alg.gives d tt) ∙ part_taken d _ _ _ _ _ _ (sym c.if-take_key.true ∙ c.take_key.ensures.answer) (c.take_key.ensures.rest ∙ ap (λ (b : Bool). if b then past c.read_algorithm.new.reader else c.read_algorithm.new.reader) c.if-take_key.true) ∙ word_reads d _ _ _ _ _ (c.in_ok-read_number.ensures.gives d tt) ∙ done_reads d _ _);
  stands = search rules;
  shorter = search rules;
}

pub returns-in-Err : goal.returns-in-Err
returns-in-Err g c = no_line _ _ _ _ _ (λ d h. inl (out_of_memory_here _ _ _ _ c.out_of_memory_at.ensures (reaches_word d _ _ _ _ _ _ _ _ (c.in_ok-alg.ensures.alg.gives d tt) c.in_ok-alg.ensures.stood)))

pub returns-in-Ok-alg : goal.returns-in-Ok-alg
returns-in-Ok-alg g c = record {
  reads = λ d h.
      (with_alg d _, c.in-Ok-alg.ensures.ok d h, word_reads d _ _ _ _ _ (c.in_ok-alg.ensures.alg.gives d tt) ∙ part_taken d _ _ _ _ _ _ (sym c.if-take_key.false ∙ c.take_key.ensures.answer) (c.take_key.ensures.rest ∙ ap (λ (b : Bool). if b then past c.read_algorithm.new.reader else c.read_algorithm.new.reader) c.if-take_key.false) ∙ done_reads d _ _);
  stands = search rules;
  shorter = search rules;
}

pub returns-in-Err-alg : goal.returns-in-Err-alg
returns-in-Err-alg g c = no_line _ _ _ _ _ (λ d h. inl (out_of_memory_here _ _ _ _ c.out_of_memory_at-in-Err-alg.ensures (reaches_word d _ _ _ _ _ _ _ _ (c.in_ok-alg.ensures.alg.gives d tt) c.in_ok-alg.ensures.stood)))
