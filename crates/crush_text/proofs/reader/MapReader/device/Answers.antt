-- The words of a device's line, after which adding the device has no fault.
use Rattle.std.proofs.Common.{inl, rules, Bool, None, refl, sym, ap, ◌∙◌}
use Rattle.std.specs.Prelude.{if◌then◌else◌}
use Rattle.crush_units.specs.Words.{past}
use Rattle.std.proofs.lemmas.Result.{err_from_is_err_and}
use Rattle.crush_builder.specs.Built.{with_device}
use Rattle.crush_builder.specs.Building.{IsDraft}
use Rattle.crush_text.specs.declared.expected.Optional.TheVariants.{Class}
use Rattle.crush_text.specs.Form.{first, at, passing, done}
use Rattle.crush_text.proofs.LineByLine.{fails_so}
use Rattle.crush_text.proofs.LineEnds.{still, still_idle, word_fails, word_reads, device_reads, class_reads}
use Rattle.crush_text.proofs.Reached.{part_taken, out_of_memory_here, reaches_word, reaches_on, reaches_taken}
use Rattle.crush_text.proofs.Steps.{done_reads}
use Rattle.crush_text.proofs.MemoryAlone.{free_device}
use Rattle.crush_text.proofs.Refused.{no_line}
use Rattle.crush_text.proofs.reader.MapReader.device.Goals as goal

pub returns-in_err-id : goal.returns-in_err-id
returns-in_err-id g c =
    let p = err_from_is_err_and c.from_residual.result c.from_residual.ensures.1 in
    rw (p.1, p.2) (no_line _ _ _ _ _ (λ d h.
    (word_fails d _ _ _ _ (c.in_err-id.ensures.reads.gives d h))))

pub returns-in_err-name : goal.returns-in_err-name
returns-in_err-name g c =
    let p = err_from_is_err_and c.from_residual-in_err-name.result c.from_residual-in_err-name.ensures.1 in
    rw (p.1, p.2) (no_line _ _ _ _ _ (λ d h.
    (fails_so _ _ _ (word_reads d _ _ _ _ _ (c.in_ok-id.ensures.reads.gives d h)) (word_fails d _ _ _ _ (c.in_err-name.ensures.reads.gives d (still c.in_ok-id.ensures.kept h))))))

pub returns-in_err-class : goal.returns-in_err-class
returns-in_err-class g c =
    let p = err_from_is_err_and c.from_residual-in_err-class.result c.from_residual-in_err-class.ensures.1 in
    rw (p.1, p.2) (no_line _ _ _ _ _ (λ d h.
    let head = device_reads d _ _ _ _ _ (c.in_ok-id.ensures.reads.gives d h) (c.in_ok-name.ensures.reads.gives d (still c.in_ok-id.ensures.kept h)) in
    (fails_so _ _ _ (head ∙ part_taken d _ _ _ _ _ _ (sym c.if-take_key.true ∙ c.take_key.ensures.answer) (c.take_key.ensures.rest ∙ ap (λ (b : Bool). if b then past c.new_name.new.self.text else c.new_name.new.self.text) c.if-take_key.true)) (word_fails d _ _ _ _ (c.in_err-class.ensures.gives d tt)))))

pub device_unchecked-requires-clause-clear : goal.device_unchecked-requires-clause-clear
device_unchecked-requires-clause-clear g c d u =
    let h : IsDraft c.args.self.now.builder d = still (sym (c.in_ok-name.ensures.kept ∙ c.in_ok-id.ensures.kept)) u in
    free_device d _ _ (c.in_ok-id.ensures.reads.free d h) (c.in_ok-name.ensures.reads.free d (still c.in_ok-id.ensures.kept h)) (c.requires.room d h)

pub device_unchecked-requires-2-clause-clear : goal.device_unchecked-requires-2-clause-clear
device_unchecked-requires-2-clause-clear g c d u =
    let h : IsDraft c.args.self.now.builder d = still (sym (c.in_ok-name.ensures.kept ∙ c.in_ok-id.ensures.kept)) u in
    free_device d _ _ (c.in_ok-id.ensures.reads.free d h) (c.in_ok-name.ensures.reads.free d (still c.in_ok-id.ensures.kept h)) (c.requires.room d h)

pub returns-in-Ok : goal.returns-in-Ok
returns-in-Ok g c = record {
  reads = λ d h.
      let head = device_reads d _ _ _ _ _ (c.in_ok-id.ensures.reads.gives d h) (c.in_ok-name.ensures.reads.gives d (still c.in_ok-id.ensures.kept h)) in
      (with_device d _ _ _, c.in-Ok.ensures.ok d (still (c.in_ok-name.ensures.kept ∙ c.in_ok-id.ensures.kept) h), head ∙ part_taken d _ _ _ _ _ _ (sym c.if-take_key.true ∙ c.take_key.ensures.answer) (c.take_key.ensures.rest ∙ ap (λ (b : Bool). if b then past c.new_name.new.self.text else c.new_name.new.self.text) c.if-take_key.true) ∙ class_reads d _ _ _ _ _ (c.in_ok-class.ensures.gives d tt));
  stands = let d = c.requires.idle.some in
      still_idle _ _ d.0 _ c.requires.idle.part d.1 (c.in-Ok.ensures.ok d.0 (still (c.in_ok-name.ensures.kept ∙ c.in_ok-id.ensures.kept) d.1)) refl;
  shorter = search rules;
}

pub returns-in-Err : goal.returns-in-Err
returns-in-Err g c = no_line _ _ _ _ _ (λ d h. inl (out_of_memory_here _ _ _ _ c.memory_at.ensures (
    reaches_on d _ _ _ _ _ _ (c.in_ok-id.ensures.reads.gives d h)
    (reaches_on d _ _ _ _ _ _ (c.in_ok-name.ensures.reads.gives d (still c.in_ok-id.ensures.kept h))
    (reaches_taken d _ _ (done (passing Class (at first (with_device d c.in_ok-id.id c.in_ok-name.name.text.now None)))) _ _ _ _ (sym c.if-take_key.true ∙ c.take_key.ensures.answer) (c.take_key.ensures.rest ∙ ap (λ (b : Bool). if b then past c.new_name.new.self.text else c.new_name.new.self.text) c.if-take_key.true) (reaches_word d _ _ _ _ _ _ _ _ (c.in_ok-class.ensures.gives d tt) (_, c.in_ok-class.ensures.next)))))))

pub returns-in-Ok-device_unchecked : goal.returns-in-Ok-device_unchecked
returns-in-Ok-device_unchecked g c = record {
  reads = λ d h.
      let head = device_reads d _ _ _ _ _ (c.in_ok-id.ensures.reads.gives d h) (c.in_ok-name.ensures.reads.gives d (still c.in_ok-id.ensures.kept h)) in
      (with_device d _ _ _, c.in-Ok-device_unchecked.ensures.ok d (still (c.in_ok-name.ensures.kept ∙ c.in_ok-id.ensures.kept) h), head ∙ part_taken d _ _ _ _ _ _ (sym c.if-take_key.false ∙ c.take_key.ensures.answer) (c.take_key.ensures.rest ∙ ap (λ (b : Bool). if b then past c.new_name.new.self.text else c.new_name.new.self.text) c.if-take_key.false) ∙ done_reads d _ _);
  stands = let d = c.requires.idle.some in
      still_idle _ _ d.0 _ c.requires.idle.part d.1 (c.in-Ok-device_unchecked.ensures.ok d.0 (still (c.in_ok-name.ensures.kept ∙ c.in_ok-id.ensures.kept) d.1)) refl;
  shorter = search rules;
}

pub returns-in-Err-device_unchecked : goal.returns-in-Err-device_unchecked
returns-in-Err-device_unchecked g c = no_line _ _ _ _ _ (λ d h. inl (out_of_memory_here _ _ _ _ c.memory_at-in-Err-device_unchecked.ensures (reaches_on d _ _ _ _ _ _ (c.in_ok-id.ensures.reads.gives d h) (reaches_word d _ _ _ _ _ _ _ _ (c.in_ok-name.ensures.reads.gives d (still c.in_ok-id.ensures.kept h)) (_, c.in_ok-name.ensures.reads.next)))))
