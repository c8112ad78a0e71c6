-- The words of a type's line. The builder can only fail with OutOfMemory.
use Rattle.std.proofs.Common.{◌≡◌, ◌∙◌, Err, rules, refl}
use Rattle.std.proofs.lemmas.Result.{err_from_is_err_and, IfErr-at_err}
use Rattle.crush_builder.specs.Built.{with_kind}
use Rattle.crush_builder.specs.declared.fault.BuildFault.{BuildFault}
use Rattle.crush_builder.specs.declared.fault.BuildFault.TheVariants.{DuplicateId, DuplicateName, TooMany, OutOfMemory}
use Rattle.crush_text.proofs.LineByLine.{fails_so}
use Rattle.crush_text.proofs.LineEnds.{still, still_idle, word_fails, word_reads, type_reads}
use Rattle.crush_text.proofs.Reached.{reaches_word, reaches_on}
use Rattle.crush_text.proofs.MemoryAlone.{memory_of_three}
use Rattle.crush_text.proofs.Refused.{no_line, line_or_memory}
use Rattle.crush_text.proofs.reader.MapReader.kind.Goals as goal

pub returns-in_err-number : goal.returns-in_err-number
returns-in_err-number g c =
    let p = err_from_is_err_and c.from_residual.result c.from_residual.ensures.1 in
    rw (p.1, p.2) (no_line _ _ _ _ _ (λ d h.
    (word_fails d _ _ _ _ (c.in_err-number.ensures.reads.gives d h))))

pub returns-in_err-name : goal.returns-in_err-name
returns-in_err-name g c =
    let p = err_from_is_err_and c.from_residual-in_err-name.result c.from_residual-in_err-name.ensures.1 in
    rw (p.1, p.2) (no_line _ _ _ _ _ (λ d h.
    (fails_so _ _ _ (word_reads d _ _ _ _ _ (c.in_ok-number.ensures.reads.gives d h)) (word_fails d _ _ _ _ (c.in_err-name.ensures.reads.gives d (still c.in_ok-number.ensures.kept h))))))

pub kind-requires-clause-free : goal.kind-requires-clause-free
kind-requires-clause-free g c =
    let d = c.requires.idle.some in
    (c.in_ok-name.ensures.reads.free d.0 (still c.in_ok-number.ensures.kept d.1)).0

pub map_err-requires : goal.map_err-requires
map_err-requires g c =
    let d = c.requires.idle.some in
    let h = still c.in_ok-number.ensures.kept d.1 in
    let want : (f : BuildFault) → c.kind.result ≡ Err f → f ≡ OutOfMemory = λ f is. memory_of_three DuplicateId DuplicateName TooMany _ _ _ f (c.in_ok-number.ensures.reads.free d.0 d.1) (c.in_ok-name.ensures.reads.free d.0 h).1 (c.requires.room d.0 d.1) (IfErr-at_err _ is c.kind.ensures.refused d.0 (still c.in_ok-name.ensures.kept h)) in
    search (want)

pub returns : goal.returns
returns g c =
    line_or_memory c.kind.result _ c.map_err.result c.in_ok-name.name.place c.map_err.ensures.cases (λ e f told. search rules)
    (λ d h. reaches_on d _ _ _ _ _ _ (c.in_ok-number.ensures.reads.gives d h) (reaches_word d _ _ _ _ _ _ _ _ (c.in_ok-name.ensures.reads.gives d (still c.in_ok-number.ensures.kept h)) (_, c.in_ok-name.ensures.reads.next)))
    c.kind.ensures.ok
    (λ ok. record {
      reads = λ d h.
          (with_kind d _ _, ok d (still (c.in_ok-name.ensures.kept ∙ c.in_ok-number.ensures.kept) h), type_reads d _ _ _ _ _ (c.in_ok-number.ensures.reads.gives d h) (c.in_ok-name.ensures.reads.gives d (still c.in_ok-number.ensures.kept h)));
      stands = let d = c.requires.idle.some in
          still_idle _ _ d.0 _ c.requires.idle.part d.1 (ok d.0 (still (c.in_ok-name.ensures.kept ∙ c.in_ok-number.ensures.kept) d.1)) refl;
      shorter = search rules;
    })
