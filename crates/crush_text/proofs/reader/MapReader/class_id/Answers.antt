-- The words of a class id's line. The builder can only fail with OutOfMemory.
use Rattle.std.proofs.Common.{◌≡◌, ◌∙◌, Err, rules}
use Rattle.std.proofs.lemmas.Result.{err_from_is_err_and, IfErr-at_err}
use Rattle.crush_builder.specs.Built.{with_class_id}
use Rattle.crush_builder.specs.declared.fault.BuildFault.{BuildFault}
use Rattle.crush_builder.specs.declared.fault.BuildFault.TheVariants.{DuplicateId, DuplicateName, TooMany, OutOfMemory}
use Rattle.crush_text.proofs.LineByLine.{fails_so}
use Rattle.crush_text.proofs.LineEnds.{still, word_fails, word_reads, class_id_reads}
use Rattle.crush_text.proofs.Reached.{reaches_word, reaches_on}
use Rattle.crush_text.proofs.MemoryAlone.{memory_of_three}
use Rattle.crush_text.proofs.Refused.{no_line, line_or_memory}
use Rattle.crush_text.proofs.reader.MapReader.class_id.Goals as goal

pub returns-in_err-id : goal.returns-in_err-id
returns-in_err-id g c =
    let p = err_from_is_err_and c.from_residual.result c.from_residual.ensures.1 in
    rw (p.1, p.2) (no_line _ _ _ _ _ (λ d h.
    (word_fails d _ _ _ _ (c.in_err-id.ensures.reads.gives d h))))

pub returns-in_err-read_key : goal.returns-in_err-read_key
returns-in_err-read_key g c =
    let p = err_from_is_err_and c.from_residual-in_err-read_key.result c.from_residual-in_err-read_key.ensures.1 in
    rw (p.1, p.2) (no_line _ _ _ _ _ (λ d h.
    (fails_so _ _ _ (word_reads d _ _ _ _ _ (c.in_ok-id.ensures.reads.gives d h)) (word_fails d _ _ _ _ (c.in_err-read_key.ensures.gives d tt)))))

pub returns-in_err-class : goal.returns-in_err-class
returns-in_err-class g c =
    let p = err_from_is_err_and c.from_residual-in_err-class.result c.from_residual-in_err-class.ensures.1 in
    rw (p.1, p.2) (no_line _ _ _ _ _ (λ d h.
    (fails_so _ _ _ (word_reads d _ _ _ _ _ (c.in_ok-id.ensures.reads.gives d h) ∙ word_reads d _ _ _ _ _ (c.in_ok-read_key.ensures.gives d tt)) (word_fails d _ _ _ _ (c.in_err-class.ensures.reads.gives d (still c.in_ok-id.ensures.kept h))))))

pub map_err-requires : goal.map_err-requires
map_err-requires g c =
    let d = c.requires.numbered.some in
    let h = still c.in_ok-id.ensures.kept d.1 in
    let want : (f : BuildFault) → c.class_id.result ≡ Err f → f ≡ OutOfMemory = λ f is. memory_of_three DuplicateId DuplicateName TooMany _ _ _ f (c.in_ok-id.ensures.reads.free d.0 d.1) (c.in_ok-class.ensures.reads.free d.0 h) (c.requires.room d.0 d.1) (IfErr-at_err _ is c.class_id.ensures.refused d.0 (still c.in_ok-class.ensures.kept h)) in
    search (want)

pub returns : goal.returns
returns g c =
    line_or_memory c.class_id.result _ c.map_err.result c.in_ok-class.class.place c.map_err.ensures.cases (λ e f told. search rules)
    (λ d h. reaches_on d _ _ _ _ _ _ (c.in_ok-id.ensures.reads.gives d h) (reaches_on d _ _ _ _ _ _ (c.in_ok-read_key.ensures.gives d tt) (reaches_word d _ _ _ _ _ _ _ _ (c.in_ok-class.ensures.reads.gives d (still c.in_ok-id.ensures.kept h)) (_, c.in_ok-class.ensures.reads.next))))
    c.class_id.ensures.ok
    (λ ok. record {
      reads = λ d h.
          (with_class_id d _ _, ok d (still (c.in_ok-class.ensures.kept ∙ c.in_ok-id.ensures.kept) h), class_id_reads d _ _ _ _ _ _ (c.in_ok-id.ensures.reads.gives d h) (c.in_ok-read_key.ensures.gives d tt) (c.in_ok-class.ensures.reads.gives d (still c.in_ok-id.ensures.kept h)));
      stands = search rules;
      shorter = search rules;
    })
