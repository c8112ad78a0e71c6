-- The words of a step that say how many items it chooses, and of which type.
use Rattle.std.proofs.Common.{◌∙◌, refl, inl}
use Rattle.std.proofs.lemmas.Result.{err_from_is_err_and}
use Rattle.crush_text.proofs.LineByLine.{fails_so}
use Rattle.crush_text.proofs.LineEnds.{word_fails, word_reads}
use Rattle.crush_text.proofs.Reached.{out_of_memory_here, reaches_word, reaches_on}
use Rattle.crush_text.proofs.Refused.{no_step}
use Rattle.crush_text.proofs.reader.MapReader.choose.Goals as goal

pub returns-in_err-firstn : goal.returns-in_err-firstn
returns-in_err-firstn g c =
    let p = err_from_is_err_and c.from_residual.result c.from_residual.ensures.1 in
    rw (p.1, p.2) (no_step _ _ _ _ refl (λ d r h.
    (word_fails d _ _ _ _ (c.in_err-firstn.ensures.gives d tt))))

pub returns-in_err-count : goal.returns-in_err-count
returns-in_err-count g c =
    let p = err_from_is_err_and c.from_residual-in_err-count.result c.from_residual-in_err-count.ensures.1 in
    rw (p.1, p.2) (no_step _ _ _ _ refl (λ d r h.
    (fails_so _ _ _ (word_reads d _ _ _ _ _ (c.in_ok-firstn.ensures.gives d tt)) (word_fails d _ _ _ _ (c.in_err-count.ensures.gives d tt)))))

pub returns-in_err-read_key : goal.returns-in_err-read_key
returns-in_err-read_key g c =
    let p = err_from_is_err_and c.from_residual-in_err-read_key.result c.from_residual-in_err-read_key.ensures.1 in
    rw (p.1, p.2) (no_step _ _ _ _ refl (λ d r h.
    (fails_so _ _ _ (word_reads d _ _ _ _ _ (c.in_ok-firstn.ensures.gives d tt) ∙ word_reads d _ _ _ _ _ (c.in_ok-count.ensures.gives d tt)) (word_fails d _ _ _ _ (c.in_err-read_key.ensures.gives d tt)))))

pub returns-in_err-kind : goal.returns-in_err-kind
returns-in_err-kind g c =
    let p = err_from_is_err_and c.from_residual-in_err-kind.result c.from_residual-in_err-kind.ensures.1 in
    rw (p.1, p.2) (no_step _ _ _ _ c.in_err-kind.ensures.kept (λ d r h.
    (fails_so _ _ _ (word_reads d _ _ _ _ _ (c.in_ok-firstn.ensures.gives d tt) ∙ word_reads d _ _ _ _ _ (c.in_ok-count.ensures.gives d tt) ∙ word_reads d _ _ _ _ _ (c.in_ok-read_key.ensures.gives d tt)) (word_fails d _ _ _ _ (c.in_err-kind.ensures.reads.gives d h)))))

pub returns-in_err-kind-2 : goal.returns-in_err-kind-2
returns-in_err-kind-2 g c =
    let p = err_from_is_err_and c.from_residual-in_err-kind-2.result c.from_residual-in_err-kind-2.ensures.1 in
    rw (p.1, p.2) (no_step _ _ _ _ c.in_ok-kind.ensures.kept (λ d r h.
    (
    inl (out_of_memory_here _ _ _ _ c.in_err-kind-2.ensures.memory
    (reaches_on d _ _ _ _ _ _ (c.in_ok-firstn.ensures.gives d tt)
    (reaches_on d _ _ _ _ _ _ (c.in_ok-count.ensures.gives d tt)
    (reaches_on d _ _ _ _ _ _ (c.in_ok-read_key.ensures.gives d tt)
    (reaches_word d _ _ _ _ _ _ _ _ (c.in_ok-kind.ensures.reads.gives d h) (_, c.in_ok-kind.ensures.reads.next))))))
    )))
