-- Reading the bucket that a step takes, and its class, one word after the other.
use Rattle.std.proofs.Common.{rules, Bool, None, sym, ap, ◌∙◌, inl}
use Rattle.std.specs.Prelude.{if◌then◌else◌}
use Rattle.crush_units.specs.Words.{past}
use Rattle.std.proofs.lemmas.Result.{err_from_is_err_and}
use Rattle.crush_edits.specs.Setting.{take}
use Rattle.crush_builder.specs.Rules.{complete_bucket_named, taken_number}
use Rattle.crush_text.specs.declared.expected.Optional.TheVariants.{Class}
use Rattle.crush_text.specs.Form.{ruled, at, passing, done}
use Rattle.crush_text.specs.Grammar.{with_step}
use Rattle.crush_text.proofs.LineByLine.{fails_so}
use Rattle.crush_text.proofs.LineEnds.{word_fails, word_reads}
use Rattle.crush_text.proofs.Reached.{part_taken, out_of_memory_here, reaches_word, reaches_on, reaches_taken}
use Rattle.crush_text.proofs.Steps.{done_reads, bucket_taken}
use Rattle.crush_text.proofs.Refused.{no_step}
use Rattle.crush_text.proofs.reader.MapReader.take.Goals as goal

pub returns-in_err-bucket : goal.returns-in_err-bucket
returns-in_err-bucket g c =
    let p = err_from_is_err_and c.from_residual.result c.from_residual.ensures.1 in
    rw (p.1, p.2) (no_step _ _ _ _ c.in_err-bucket.ensures.kept (λ d r h.
    (word_fails d _ _ _ _ (c.in_err-bucket.ensures.reads.gives d h))))

pub returns-in_err-class : goal.returns-in_err-class
returns-in_err-class g c =
    let p = err_from_is_err_and c.from_residual-in_err-class.result c.from_residual-in_err-class.ensures.1 in
    rw (p.1, p.2) (no_step _ _ _ _ c.in_ok-bucket.ensures.kept (λ d r h.
    (fails_so _ _ _ (word_reads d _ _ _ _ _ (bucket_taken d c.in_ok-bucket.bucket.text.now _ _ (c.in_ok-bucket.ensures.reads.gives d h)) ∙ part_taken d _ _ _ _ _ _ (sym c.if-not-take_key.false ∙ c.take_key.ensures.answer) (c.take_key.ensures.rest ∙ ap (λ (b : Bool). if b then past c.taken_bucket.new.self.text else c.taken_bucket.new.self.text) c.if-not-take_key.false)) (word_fails d _ _ _ _ (c.in_err-class.ensures.gives d tt)))))

pub returns-in_err-bucket-2 : goal.returns-in_err-bucket-2
returns-in_err-bucket-2 g c =
    let p = err_from_is_err_and c.from_residual-in_err-bucket-2.result c.from_residual-in_err-bucket-2.ensures.1 in
    rw (p.1, p.2) (no_step _ _ _ _ c.in_ok-bucket.ensures.kept (λ d r h.
    (inl (out_of_memory_here _ _ _ _ c.in_err-bucket-2.ensures.memory (reaches_word d _ _ _ _ _ _ _ _ (bucket_taken d c.in_ok-bucket.bucket.text.now _ _ (c.in_ok-bucket.ensures.reads.gives d h)) (_, c.in_ok-bucket.ensures.reads.next))))))

pub returns-in_err-class-2 : goal.returns-in_err-class-2
returns-in_err-class-2 g c =
    let p = err_from_is_err_and c.from_residual-in_err-class-2.result c.from_residual-in_err-class-2.ensures.1 in
    rw (p.1, p.2) (no_step _ _ _ _ c.in_ok-bucket.ensures.kept (λ d r h.
    (
    inl (out_of_memory_here _ _ _ _ c.in_err-class-2.ensures.memory
    (reaches_on d _ _ _ _ _ _ (bucket_taken d c.in_ok-bucket.bucket.text.now _ _ (c.in_ok-bucket.ensures.reads.gives d h))
    (reaches_taken d _ _ (done (passing Class (at (ruled (with_step r (take (taken_number (complete_bucket_named d c.in_ok-bucket.bucket.text.now)) None))) d))) _ _ _ _ (sym c.if-not-take_key.false ∙ c.take_key.ensures.answer) (c.take_key.ensures.rest ∙ ap (λ (b : Bool). if b then past c.taken_bucket.new.self.text else c.taken_bucket.new.self.text) c.if-not-take_key.false) (reaches_word d _ _ _ _ _ _ _ _ (c.in_ok-class.ensures.gives d tt) (_, c.in_ok-class.ensures.next)))))
    )))

pub returns : goal.returns
returns g c = record {
  form = search rules;
  gives = λ d r h.
      rw (c.in_ok-bucket-2.ensures.name, c.in_ok-class-2.ensures.name) (word_reads d _ _ _ _ _ (bucket_taken d c.in_ok-bucket.bucket.text.now _ _ (c.in_ok-bucket.ensures.reads.gives d h)) ∙ part_taken d _ _ _ _ _ _ (sym c.if-not-take_key.false ∙ c.take_key.ensures.answer) (c.take_key.ensures.rest ∙ ap (λ (b : Bool). if b then past c.taken_bucket.new.self.text else c.taken_bucket.new.self.text) c.if-not-take_key.false) ∙ word_reads d _ _ _ _ _ (c.in_ok-class.ensures.gives d tt) ∙ done_reads d _ _);
  free = search rules;
  kept = c.in_ok-bucket.ensures.kept;
  shorter = search rules;
}
